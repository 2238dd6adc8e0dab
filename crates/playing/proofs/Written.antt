-- Parts of a run, one after another.
use Rattle.std.proofs.Common.{◌≡◌, ℕ, ◌-◌, List, [], ◌++◌, length, take, drop, length-drop, take-append-drop, take_all, arith, Bool, true, false, Option, None, Some, Result, Ok, Err, OnOk, OnErr, IfOk, sym, ap, ◌∙◌, append_assoc, subst}
use Rattle.std.proofs.lemmas.Bool.{ltb-false}
use Rattle.std.specs.Bool.{MatchBool}
use Rattle.std.specs.Io.KnownBytes.{Appends, Consumes, IsAtEnd}
use Rattle.std.proofs.KnownBytes.{Appends-nil, Appends-trans, Consumes-nil, Consumes-trans}
use Rattle.player.specs.Own.{game}
use Rattle.player.specs.Play.{output, goes_on, lines_from, play_lines, total}
use Rattle.player.specs.declared.feed.Player.{Player}
use Rattle.player.proofs.Plays.{ended}
use Rattle.playing.specs.Written.{Written, Begins, WrittenInPart, Continues, Finishes, FinishesInPart}

pub nothing_written : (old : Option (List ℕ)) (f g : List ℕ → List ℕ) → ((rest : List ℕ) → f rest ≡ g rest) → Written old old f g
nothing_written old f g e = ([], Appends-nil old, e)

pub Written-trans : (a b c : Option (List ℕ)) (f g h : List ℕ → List ℕ) → Written a b f g → Written b c g h → Written a c f h
Written-trans a b c f g h (v, av, ev) (w, aw, ew) =
    (v ++ w, Appends-trans a b c v w av aw, λ rest. ev rest ∙ ap (λ l. v ++ l) (ew rest) ∙ sym (append_assoc v w (h rest)))

pub nothing_read : (left old : Option (List ℕ)) (f g : List ℕ → List ℕ) → ((rest : List ℕ) → f rest ≡ g rest) → Continues left left old old f g
nothing_read left old f g e = ([], Consumes-nil left, nothing_written old f g e)

pub Continues-trans : (l m n a b c : Option (List ℕ)) (f g h : List ℕ → List ℕ) → Continues l m a b f g → Continues m n b c g h → Continues l n a c f h
Continues-trans l m n a b c f g h (bs, eb, one) (cs, ec, two) = (
  bs ++ cs,
  Consumes-trans l m n bs cs eb ec,
  Written-trans a b c (λ rest. f ((bs ++ cs) ++ rest)) (λ rest. g (cs ++ rest)) h (one.0, one.1, λ rest. ap f (append_assoc bs cs rest) ∙ one.2 (cs ++ rest)) two,
)

pub Continues-Finishes : (l m a b c : Option (List ℕ)) (f g : List ℕ → List ℕ) → Continues l m a b f g → Finishes m b c g → Finishes l a c f
Continues-Finishes None m a b c f g p q = tt
Continues-Finishes (Some xs) None a b c f g (bs, eb, one) q = absurd eb
Continues-Finishes (Some xs) (Some ys) a b c f g (bs, eb, one) q =
    subst (Appends a c) (sym (ap f eb ∙ one.2 ys)) (Appends-trans a b c one.0 (g ys) one.1 q)

-- nothing is to be written any more, whatever text is left
pub nothing_left : (left old : Option (List ℕ)) (f : List ℕ → List ℕ) → ((rest : List ℕ) → f rest ≡ []) → Finishes left old old f
nothing_left None old f e = tt
nothing_left (Some xs) old f e = subst (Appends old old) (sym (e xs)) (Appends-nil old)

-- a chunk was read and played: the player goes on below its last output line
pub chunk_played : {E : Type 0} (r : Result Bool E) (p : Player) (l m a b : Option (List ℕ)) (f : List ℕ → List ℕ) (bs : List ℕ)
    → Consumes l m bs → OnOk r (Written a b (λ rest. f (bs ++ rest)) (total p)) → IfOk r (λ more. more ≡ goes_on p) → OnOk r (output p ≡ [])
    → IfOk r (λ more. MatchBool more (Continues l m a b f (total p)) (Finishes l a b f))
chunk_played (Err e) p l m a b f bs took wrote more empty = tt
chunk_played (Ok true) p l m a b f bs took wrote more empty = (bs, took, wrote)
chunk_played (Ok false) p l m a b f bs took wrote more empty =
    Continues-Finishes l m a b b f (total p) (bs, took, wrote) (nothing_left m b (total p) (ended p empty (ltb-false p.count 4294967295 (sym more))))

pub continued : (more : Bool) (P Q : Type 0) → more ≡ true → MatchBool more P Q → P
continued more P Q e h = subst (λ b. MatchBool b P Q) e h

-- ---- where a read or a write failed, or none did

pub on_ok : {T E : Type 0} {P : Type 0} (r : Result T E) → P → OnOk r P
on_ok (Ok x) h = h
on_ok (Err e) h = tt

pub on_err : {T E : Type 0} {P : Type 0} (r : Result T E) → P → OnErr r P
on_err (Ok x) h = tt
on_err (Err e) h = h

-- what was written begins what stood in the player's buffer, and that begins what is to be written
begins_on : (xs w front after : List ℕ) → xs ≡ front ++ after → Begins front w → Begins xs w
begins_on xs w front after e (more, h) = (more ++ after, e ∙ ap (λ l. l ++ after) h ∙ append_assoc w more after)

pub output_begins : (p : Player) (bs xs w : List ℕ) → xs ≡ total p bs → Begins (output p) w → Begins xs w
unfolding total
output_begins p bs xs w e b = begins_on xs w (output p) (play_lines (game p.store) p.count (lines_from p.line.items bs)) e b

-- what is left of a slice after n bytes
pub left_over : (left : List ℕ) (n : ℕ) → take (length left - n) (drop n left) ≡ drop n left
left_over left n = take_all _ (drop n left) (omega (arith, length-drop n left))

-- of what was left n bytes more were written
pub written_on : (out w left : List ℕ) (n : ℕ) → out ≡ w ++ left → out ≡ (w ++ take n left) ++ take (length left - n) (drop n left)
written_on out w left n e =
    e ∙ ap (λ l. w ++ l) (sym (take-append-drop n left) ∙ ap (λ l. take n left ++ l) (sym (left_over left n)))
    ∙ sym (append_assoc w (take n left) _)

begins_more : (v w xs ys : List ℕ) → xs ≡ v ++ ys → Begins ys w → Begins xs (v ++ w)
begins_more v w xs ys e (more, h) = (more, e ∙ ap (λ l. v ++ l) h ∙ sym (append_assoc v w more))

pub Written-InPart : (a b c : Option (List ℕ)) (f g : List ℕ → List ℕ) → Written a b f g → WrittenInPart b c g → WrittenInPart a c f
Written-InPart a b c f g (v, av, ev) (w, aw, ew) =
    (v ++ w, Appends-trans a b c v w av aw, λ rest. begins_more v w (f rest) (g rest) (ev rest) (ew rest))

-- a chunk was read, and a part of what it gave was written
pub chunk_in_part : (l m a b : Option (List ℕ)) (f : List ℕ → List ℕ) (bs : List ℕ) → Consumes l m bs → WrittenInPart a b (λ rest. f (bs ++ rest)) → FinishesInPart l a b f
chunk_in_part None m a b f bs took part = tt
chunk_in_part (Some xs) None a b f bs took part = absurd took
chunk_in_part (Some xs) (Some ys) a b f bs took (w, aw, ew) = (w, aw, ((ew ys).0, ap f took ∙ (ew ys).1))

pub chunk_failed : {T E : Type 0} (r : Result T E) (l m a b : Option (List ℕ)) (f : List ℕ → List ℕ) (bs : List ℕ)
    → Consumes l m bs → OnErr r (WrittenInPart a b (λ rest. f (bs ++ rest))) → OnErr r (FinishesInPart l a b f)
chunk_failed (Ok x) l m a b f bs took part = tt
chunk_failed (Err e) l m a b f bs took part = chunk_in_part l m a b f bs took part

-- the text was at its end, and a part of its last line's output was written
pub end_in_part : (l m a b : Option (List ℕ)) (f : List ℕ → List ℕ) (bs : List ℕ) → Consumes l m bs → bs ≡ [] → IsAtEnd m → WrittenInPart a b (λ rest. f []) → FinishesInPart l a b f
end_in_part None m a b f bs took none end part = tt
end_in_part (Some xs) None a b f bs took none end part = absurd took
end_in_part (Some xs) (Some ys) a b f bs took none end (w, aw, ew) =
    (w, aw, ((ew []).0, ap f (took ∙ ap (λ l. l ++ ys) none ∙ end) ∙ (ew []).1))

pub Continues-InPart : (l m a b c : Option (List ℕ)) (f g : List ℕ → List ℕ) → Continues l m a b f g → FinishesInPart m b c g → FinishesInPart l a c f
Continues-InPart None m a b c f g p q = tt
Continues-InPart (Some xs) None a b c f g (bs, eb, one) q = absurd eb
Continues-InPart (Some xs) (Some ys) a b c f g (bs, eb, one) (w, aw, ew) =
    (one.0 ++ w, Appends-trans a b c one.0 w one.1 aw, begins_more one.0 w (f xs) (g ys) (ap f eb ∙ one.2 ys) ew)
