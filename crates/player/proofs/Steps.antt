-- From the call that a line says to the line's step.
use Rattle.std.proofs.Common.{◌≡◌, ℕ, ◌*◌, ◌≤◌, List, ◌++◌, length, take, drop, Bool, true, false, refl, sym, ap, ◌∙◌, arith}
use Rattle.std.specs.Prelude.{Option, Some, None, Result, Ok, Err}
use borrow.Author.Tests.{leb-true, eq-eqb}
use lib.Seq.{length-take-le, take-append_seam}
use Rattle.machine.specs.Choice.{pick, every, refuse}
use Rattle.machine.specs.ChoiceLaws.{hold}
use Rattle.machine.specs.Limits.{limits_ok, lengths_ok, sizes_ok}
use Rattle.machine.specs.Answer.{Said, Answered, said_by}
use Rattle.machine.specs.Store.{Store, parts, Outcome, outcome, fits, fresh, start}
use Rattle.machine.specs.Census.{census}
use Rattle.machine.specs.declared.Record.{Record}
use Rattle.machine.specs.declared.Row.{Row}
use Rattle.machine.specs.declared.Counts.{Counts}
use Rattle.machine.specs.declared.Refusal.{Refusal}
use Rattle.machine.specs.declared.Refusal.TheVariants.{BadSize, Unreadable}
use Rattle.machine.specs.declared.Answer.TheVariants.{Done}
use Rattle.lines.specs.Output.{said_of}
use Rattle.lines.specs.declared.Line.{Line}
use Rattle.lines.specs.declared.Line.TheVariants.{Start, Write, Collect, Census}
use Rattle.lines.specs.declared.Reply.{Reply}
use Rattle.player.specs.Game.{step, playing, line_step}
use Rattle.player.specs.Own.{game, within, sizes, called, Plays}
use Rattle.player.specs.declared.store.OwnStore.{OwnStore}
use Rattle.player.proofs.Keeping.{Same, or_refused, write_same, collect-same}

-- ---- the sizes
ok_within : (n m a g b : ℕ) → Ok (n, m) ≡ within a g b → (limits_ok a g b ≡ true) × (n ≡ a) × (m ≡ b)
unfolding within
ok_within n m a g b e = go (limits_ok a g b) e
  where
    go : (t : Bool) → ◌≡◌ {A = Result (ℕ × ℕ) Refusal} (Ok (n, m)) (pick t (Ok (a, b)) (Err BadSize)) → (t ≡ true) × (n ≡ a) × (m ≡ b)
    go true e = let p : (n, m) ≡ (a, b) = cc in (refl, ap (λ (q : ℕ × ℕ). q.0) p, ap (λ (q : ℕ × ℕ). q.1) p)
    go false e = absurd cc

err_within : (k : Refusal) (a g b : ℕ) → Err k ≡ within a g b → (limits_ok a g b ≡ false) × (k ≡ BadSize)
unfolding within
err_within k a g b e = go (limits_ok a g b) e
  where
    go : (t : Bool) → ◌≡◌ {A = Result (ℕ × ℕ) Refusal} (Err k) (pick t (Ok (a, b)) (Err BadSize)) → (t ≡ false) × (k ≡ BadSize)
    go true e = absurd cc
    go false e = (refl, cc)

-- out of limits a line is refused with 1, and nothing changes
pub barred : (own : OwnStore) (l : Line) (k : Refusal) (reply : Result Reply Refusal) → Err k ≡ sizes own.rec l → reply ≡ Err k → Plays own (Some l) reply own
unfolding sizes line_step game said_of
barred own l k reply s r = record { plays = rw r (go l s) }
  where
    go : (l : Line) → Err k ≡ sizes own.rec l → step (said_by (Err k)) (game own) ≡ line_step (game own) (Some l)
    go (Start n g m) s = let h = err_within k n g m s in rw (h.0, h.1) refl
    go (Write w call) s = let h = err_within k own.rec.n own.rec.g own.rec.m s in rw (h.0, h.1) refl
    go Collect s = let h = err_within k own.rec.n own.rec.g own.rec.m s in rw (h.0, h.1) refl
    go Census s = let h = err_within k own.rec.n own.rec.g own.rec.m s in rw (h.0, h.1) refl

pub unreadable : (own : OwnStore) (line : Option Line) → line ≡ None → Plays own line (Err Unreadable) own
unfolding line_step said_of
unreadable own line e = record { plays = rw e refl }

-- ---- the game after a call on the first parts
-- a part that came back stands in front of the rest
front : {A : Type 0} (k : ℕ) (l p : List A) → k ≤ length l → length p ≡ length (take k l) → take k (p ++ drop k l) ≡ p
front k l p h e = ap (λ (i : ℕ). take i (p ++ drop k l)) (sym (e ∙ length-take-le k l h)) ∙ take-append_seam p (drop k l)

few : (n g m : ℕ) → limits_ok n g m ≡ true → (n ≤ 4096) × (m ≤ 8)
unfolding limits_ok
few n g m e = let h = hold _ e in (leb-true _ _ h.1.0, leb-true _ _ h.1.1.1.1.1.1.0)

-- the arrays of a store are as long as their types say
pub record Whole (own : OwnStore) : Type 0 where
  pub rows : length own.rows ≡ 8
  pub words : length own.fields ≡ 16384
  pub bytes : length own.colours ≡ 4096

-- of a store the first parts came back from a call
pub record Lent (own own' : OwnStore) (n m : ℕ) (rec : Record) (desk : List Row) (fs cs : List ℕ) : Type 0 where
  pub rec_is : own'.rec ≡ rec
  pub rows : own'.rows ≡ desk ++ drop m own.rows
  pub words : own'.fields ≡ fs ++ drop (n * 4) own.fields
  pub bytes : own'.colours ≡ cs ++ drop n own.colours
  pub as_many_rows : length desk ≡ length (take m own.rows)
  pub as_many_words : length fs ≡ length (take (n * 4) own.fields)
  pub as_many_bytes : length cs ≡ length (take n own.colours)

game_after : (own own' : OwnStore) (n g m : ℕ) (rec : Record) (desk : List Row) (fs cs : List ℕ)
    → Whole own → Lent own own' n m rec desk fs cs → limits_ok n g m ≡ true → rec.n ≡ n → rec.g ≡ g → rec.m ≡ m → game own' ≡ playing (parts rec desk fs cs)
unfolding game
game_after own own' n g m rec desk fs cs w t e a b d =
    let k = few n g m e in
    rw (t.rec_is, a, b, d, e, t.rows, t.words, t.bytes, front m own.rows desk (omega (arith, w.rows)) t.as_many_rows, front (n * 4) own.fields fs (omega (arith, w.words)) t.as_many_words, front n own.colours cs (omega (arith, w.bytes)) t.as_many_bytes) refl

-- what was said, and the game after it, are those of the outcome
stepped : (own own' : OwnStore) (n g m : ℕ) (reply : Result Reply Refusal) (rec : Record) (desk : List Row) (fs cs : List ℕ) (o : Outcome Said)
    → Whole own → Lent own own' n m rec desk fs cs → limits_ok n g m ≡ true → (o.store.rec.n ≡ n) × (o.store.rec.g ≡ g) × (o.store.rec.m ≡ m)
    → outcome (said_of reply) (parts rec desk fs cs) ≡ o → step (said_of reply) (game own') ≡ step o.answer (playing o.store)
stepped own own' n g m reply rec desk fs cs o w t e k q =
    let st = ap (λ (o : Outcome Said). o.store) q in
    ap (step (said_of reply)) (game_after own own' n g m rec desk fs cs w t e (ap (λ (s : Store). s.rec.n) st ∙ k.0) (ap (λ (s : Store). s.rec.g) st ∙ k.1) (ap (λ (s : Store). s.rec.m) st ∙ k.2))
    ∙ ap (λ (o : Outcome Said). step o.answer (playing o.store)) q

fitting : (n g m : ℕ) (st : Store) → limits_ok n g m ≡ true → length st.desk ≡ m → length st.fields ≡ n * 4 → length st.colours ≡ n → start n g m st ≡ outcome (Ok Done) (fresh n g m)
unfolding start fits sizes_ok lengths_ok every refuse
fitting n g m st e d f c = rw (e, eq-eqb _ _ f, eq-eqb _ _ c, eq-eqb _ _ d) refl

-- a census changes nothing
same_store : (st : Store) → (census st).store ≡ st
unfolding census
same_store st = or_refused (λ (o : Outcome (Result Counts Refusal)). o.store ≡ st) _ _ _ (λ k. refl) refl

module _ (own own' : OwnStore) (n m : ℕ) (reply : Result Reply Refusal) (rec : Record) (desk : List Row) (fs cs : List ℕ) (w : Whole own) (t : Lent own own' n m rec desk fs cs) where
  abbrev lent : Store
  lent = parts own.rec (take m own.rows) (take (n * 4) own.fields) (take n own.colours)

  -- a call other than start
  other : (l : Line) → Ok (n, m) ≡ within own.rec.n own.rec.g own.rec.m → Same (called l lent).store.rec own.rec → outcome (said_of reply) (parts rec desk fs cs) ≡ called l lent
      → ((e : limits_ok own.rec.n own.rec.g own.rec.m ≡ true) → n ≡ own.rec.n → m ≡ own.rec.m → step (called l lent).answer (playing (called l lent).store) ≡ line_step (game own) (Some l))
      → step (said_of reply) (game own') ≡ line_step (game own) (Some l)
  other l s k q f =
      let h = ok_within n m own.rec.n own.rec.g own.rec.m s in
      stepped own own' n own.rec.g m reply rec desk fs cs (called l lent) w t (rw (h.1, h.2) h.0) (k.0 ∙ sym h.1, k.1, k.2 ∙ sym h.2) q
      ∙ f h.0 h.1 h.2

  line_played : (l : Line) → Ok (n, m) ≡ sizes own.rec l → outcome (said_of reply) (parts rec desk fs cs) ≡ called l lent → step (said_of reply) (game own') ≡ line_step (game own) (Some l)
  unfolding sizes called line_step game fresh
  line_played (Start a g b) s q =
      let h = ok_within n m a g b s in
      let k = few a g b h.0 in
      let d : length (take m own.rows) ≡ b = length-take-le m own.rows (omega (arith, w.rows, h.2)) ∙ h.2 in
      let f : length (take (n * 4) own.fields) ≡ a * 4 = length-take-le (n * 4) own.fields (omega (arith, w.words, h.1)) ∙ ap (λ (i : ℕ). i * 4) h.1 in
      let c : length (take n own.colours) ≡ a = length-take-le n own.colours (omega (arith, w.bytes, h.1)) ∙ h.1 in
      stepped own own' n g m reply rec desk fs cs (outcome (said_by (Ok Done)) (fresh a g b)) w t (rw (h.1, h.2) h.0) (sym h.1, refl, sym h.2)
      (q ∙ ap (λ (o : Outcome Answered). outcome (said_by o.answer) o.store) (fitting a g b lent h.0 d f c))
      ∙ rw h.0 refl
  line_played (Write v call) s q = other (Write v call) s (write_same v call lent) q (λ e a b. rw (a, b, e) refl)
  line_played Collect s q = other Collect s (collect-same lent) q (λ e a b. rw (a, b, e) refl)
  line_played Census s q = other Census s (rw (same_store lent) (refl, refl, refl)) q (λ e a b. rw (a, b, e) refl)

  pub played : (l : Line) → Ok (n, m) ≡ sizes own.rec l → outcome (said_of reply) (parts rec desk fs cs) ≡ called l lent → Plays own (Some l) reply own'
  played l s q = record { plays = line_played l s q }
