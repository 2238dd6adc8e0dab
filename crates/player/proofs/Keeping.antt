-- No turn changes N, g or M, so the parts of the player's own store that are lent stay the same parts.
use Prim.Native.Nat.{ℕ, ◌+◌}
use mathlib.Core.Path.{◌≡◌, refl}
use mathlib.Core.Bool.{Bool, true, false}
use mathlib.Core.List.{List, [], ◌∷◌}
use lib.Dec.{ltb, eqb}
use Rattle.std.specs.Prelude.{Result, Ok, Err}
use Rattle.machine.specs.Answer.{Answered}
use Rattle.machine.specs.Choice.{pick, among, refuse}
use Rattle.machine.specs.Store.{Store, Outcome}
use Rattle.machine.specs.Parts.{colour_of, with_place, with_part, with_found}
use Rattle.machine.specs.Turns.{RecordTurn, worked, waited, Collected, collected}
use Rattle.machine.specs.Collector.{entering, opening, waiting, marking, end_pass, scan_place, scan_hold, scan_gray, scan_close, scanning, sweeping, by_stage, collector_turn}
use Rattle.machine.specs.Machine.{write, collect}
use Rattle.machine.specs.declared.Record.{Record}
use Rattle.machine.specs.declared.Call.{Call}
use Rattle.machine.specs.declared.Refusal.{Refusal}

either : {A : Type 0} (P : A → Type 0) (b : Bool) (x y : A) → P x → P y → P (pick b x y)
either P true x y p q = p
either P false x y p q = q

pub or_refused : {A : Type 0} (P : A → Type 0) (say : Refusal → A) (ts : List (Bool × Refusal)) (o : A) → ((k : Refusal) → P (say k)) → P o → P (refuse say ts o)
unfolding refuse
or_refused P say [] o r p = p
or_refused P say (t ∷ ts) o r p = either P t.0 (refuse say ts o) (say t.1) (or_refused P say ts o r p) (r t.1)

-- the same N, g and M
abbrev pub Same : Record → Record → Type 0
Same a b = (a.n ≡ b.n) × (a.g ≡ b.g) × (a.m ≡ b.m)

pub record By (rec : Record) (t : RecordTurn) : Type 0 where
  pub same : Same t.rec rec

pub record On (rec : Record) (o : Collected) : Type 0 where
  pub same : Same o.turn.rec rec

module _ (rec : Record) (seen : Result Bool Refusal) (fs cs : List ℕ) where
  it : Same rec rec
  it = (refl, refl, refl)

  waiting-same : (s : Result Bool Refusal) (stage : ℕ) → By rec (waiting rec s stage)
  unfolding waiting
  waiting-same (Ok same) stage =
      either (By rec) same (worked (entering rec stage)) (waited rec) (record { same = it }) (record { same = it })
  waiting-same (Err k) stage = record { same = it }

  pass_same : By rec (end_pass rec)
  unfolding end_pass
  pass_same = either (By rec) (eqb rec.found 0) (worked (entering rec 5)) (worked (with_found (with_place rec 0) 0)) (record { same = it }) (record { same = it })

  marking-same : On rec (marking rec seen cs)
  unfolding marking
  marking-same =
      either (On rec) (ltb rec.place rec.g) _ (collected (waiting rec seen 4) cs)
      (or_refused (On rec) _ _ _ (λ k. record { same = it }) (record { same = it })) (record { same = (waiting-same seen 4).same })

  place_same : On rec (scan_place rec cs)
  unfolding scan_place
  place_same =
      either (On rec) (ltb rec.place rec.n) _ (collected (end_pass rec) cs)
      (or_refused (On rec) _ _ _ (λ k. record { same = it })
      (either (On rec) (eqb (colour_of cs rec.place) 2) (collected (worked (with_found (with_part rec 1) 1)) cs) (collected (worked (with_place rec (rec.place + 1))) cs) (record { same = it }) (record { same = it })))
      (record { same = pass_same.same })

  hold-same : On rec (scan_hold rec fs cs)
  unfolding scan_hold
  hold-same = or_refused (On rec) _ _ _ (λ k. record { same = it }) (record { same = it })

  gray-same : On rec (scan_gray rec cs)
  unfolding scan_gray
  gray-same = or_refused (On rec) _ _ _ (λ k. record { same = it }) (record { same = it })

  scanning-same : On rec (scanning rec fs cs rec.part)
  unfolding scanning scan_close
  scanning-same =
      either (On rec) (eqb rec.part 0) (scan_place rec cs) _ place_same
      (either (On rec) (among (1 ∷ 3 ∷ 5 ∷ 7 ∷ []) rec.part) (scan_hold rec fs cs) _ hold-same
      (either (On rec) (among (2 ∷ 4 ∷ 6 ∷ 8 ∷ []) rec.part) (scan_gray rec cs) (scan_close rec cs) gray-same (record { same = it })))

  sweeping-same : On rec (sweeping rec cs)
  unfolding sweeping
  sweeping-same =
      either (On rec) (ltb rec.place rec.n) _ (collected (worked (entering rec 0)) cs)
      (or_refused (On rec) _ _ _ (λ k. record { same = it }) (record { same = it })) (record { same = it })

  turn-same : On rec (collector_turn rec seen fs cs)
  unfolding collector_turn by_stage opening
  turn-same =
      or_refused (On rec) _ _ _ (λ k. record { same = it })
      (either (On rec) (eqb rec.stage 0) (collected (opening rec) cs) _ (record { same = it })
      (either (On rec) (eqb rec.stage 1) (collected (waiting rec seen 2) cs) _ (record { same = (waiting-same seen 2).same })
      (either (On rec) (eqb rec.stage 2) (collected (waiting rec seen 3) cs) _ (record { same = (waiting-same seen 3).same })
      (either (On rec) (eqb rec.stage 3) (marking rec seen cs) _ marking-same
      (either (On rec) (eqb rec.stage 4) (scanning rec fs cs rec.part) (sweeping rec cs) scanning-same sweeping-same)))))

pub write_same : (w : ℕ) (call : Call) (st : Store) → Same (write w call st).store.rec st.rec
unfolding write
write_same w call st = or_refused (λ (o : Outcome Answered). Same o.store.rec st.rec) _ _ _ (λ k. (refl, refl, refl)) (refl, refl, refl)

pub collect-same : (st : Store) → Same (collect st).store.rec st.rec
unfolding collect
collect-same st = or_refused (λ (o : Outcome Answered). Same o.store.rec st.rec) _ _ _ (λ k. (refl, refl, refl)) (turn-same st.rec _ st.fields st.colours).same
