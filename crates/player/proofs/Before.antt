-- Before a start that succeeded nothing is seen of the store: two games that have not begun are answered alike.
use Prim.Native.Nat.{ℕ, ◌+◌}
use mathlib.Core.Path.{◌≡◌, refl}
use mathlib.Core.Bool.{Bool, true, false}
use mathlib.Core.List.{List, [], ◌∷◌}
use Rattle.std.specs.Prelude.{Option, Some, None}
use Rattle.machine.specs.Choice.{pick}
use Rattle.machine.specs.Limits.{limits_ok}
use Rattle.machine.specs.declared.Refusal.TheVariants.{BadSize}
use Rattle.lines.specs.Lines.{line_of}
use Rattle.lines.specs.declared.Line.{Line}
use Rattle.player.specs.Game.{Game, Step, refused, line_step}
use Rattle.player.specs.Play.{lines_from, play_lines, play_text}

-- the same game, or neither has begun
data Twin : Game → Game → Type 0 where
  equal : {g : Game} → Twin g g
  neither : {g h : Game} → g.started ≡ false → h.started ≡ false → Twin g h

abbrev Steps : Step → Step → Type 0
Steps s t = (s.said ≡ t.said) × Twin s.game t.game

module _ (g h : Game) (p : g.started ≡ false) (q : h.started ≡ false) where
  barred : (a b : Bool) (s t : Step) → a ≡ false → b ≡ false → Steps (pick a s (refused BadSize g)) (pick b t (refused BadSize h))
  barred a b s t e f = rw (e, f) (refl, neither p q)

  begun : (b : Bool) (s : Step) → Steps (pick b s (refused BadSize g)) (pick b s (refused BadSize h))
  begun true s = (refl, equal)
  begun false s = (refl, neither p q)

  steps : (l : Option Line) → Steps (line_step g l) (line_step h l)
  unfolding line_step
  steps None = (refl, neither p q)
  steps (Some (Line.Start n k m)) = begun (limits_ok n k m) _
  steps (Some (Line.Write w call)) = barred g.started h.started _ _ p q
  steps (Some Line.Collect) = barred g.started h.started _ _ p q
  steps (Some Line.Census) = barred g.started h.started _ _ p q

lines : (ls : List (List ℕ)) (k : ℕ) (g h : Game) → Twin g h → play_lines g k ls ≡ play_lines h k ls
unfolding play_lines
lines [] k g h t = refl
lines (l ∷ ls) k g h equal = refl
lines (l ∷ ls) k g h (neither p q) =
    let s = steps g h p q (line_of l) in
    rw (s.0, lines ls (k + 1) (line_step g (line_of l)).game (line_step h (line_of l)).game s.1) refl

pub unstarted_alike : (g h : Game) → g.started ≡ false → h.started ≡ false → (bs : List ℕ) → play_text g bs ≡ play_text h bs
unfolding play_text
unstarted_alike g h p q bs = lines (lines_from [] bs) 0 g h (neither p q)
