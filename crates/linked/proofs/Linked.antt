-- What the exported calls' contracts and demand 3 give together, for a program in C or Rust that is linked with the exported calls: it starts
-- a store by turns_lent_start and from then on changes it by these calls alone. Then the memory that it has is that of a run, and so all
-- that demand 3 says of runs holds of it.
use Rattle.std.specs.Prelude.{ℕ, ◌<◌, ◌≡◌, refl, [], ◌∷◌, Ok, Err}
use Rattle.std.proofs.Common.{sym, ap, ◌∙◌, subst, arith}
use Rattle.machine.specs.Store.{Store, fresh}
use Rattle.machine.specs.Machine.{turn}
use Rattle.runs.specs.Demand3.{Free}
use Rattle.runs.specs.Site.{Promised}
use Rattle.runs.proofs.Site.{played-run, promised}
use Rattle.turns.specs.Plain.{record_of, answer_number}
use Rattle.turns.specs.Calls.{Lent, store_of, result_of, start_by}
use Rattle.linked.specs.Called.{after_all}
use Rattle.linked.proofs.Called.{calls}
use Rattle.linked.specs.Playing.{Lasting}
use Rattle.linked.proofs.Playing.{kept, meets, lasting, played}
use Rattle.linked.proofs.Beginning.{run-tellable, begun}
use Rattle.linked.specs.Linked.{Linked}
use Rattle.machine.specs.Answer.{Answered, number, refused, said, said_by}
use Rattle.machine.proofs.AnswerLaws.{answer-said}
use Rattle.machine.specs.declared.Refusal.{Refusal}
use Rattle.machine.specs.declared.Refusal.TheVariants.{BadSize, BadNumber}
use Rattle.machine.specs.declared.Answer.TheVariants.{Done, More, Worked, Waited}

-- an answer's number below 100 is a refusal's
number-refused : (a : Answered) (k : ℕ) → k < 100 → k ≡ answer_number a → (r : Refusal) × (k ≡ number r) × (a ≡ Err r)
unfolding answer_number
number-refused (Ok Done) k h e = absurd (omega arith)
number-refused (Ok More) k h e = absurd (omega arith)
number-refused (Ok Worked) k h e = absurd (omega arith)
number-refused (Ok Waited) k h e = absurd (omega arith)
number-refused (Err r) k h e = (r, e, refl)

-- so it is that refusal
same-refused : (a : Answered) (r : Refusal) → number r < 100 → number r ≡ answer_number a → a ≡ Err r
unfolding said_by
same-refused a r h e =
    let k = number-refused a (number r) h e in
    k.2 ∙ answer-said (Err k.0) (Err r) (ap (λ (n : ℕ). said refused (n ∷ [])) (sym k.1))

-- each sentence from that of a site of the public calls (`Promised`), since the exported calls play the machine's turns
lasting-linked : {n g m : ℕ} {new : Lent} → store_of new ≡ fresh n g m → Lasting new → Promised n g (store_of new) → Linked n g m new
unfolding record_of
lasting-linked {n} {g} {m} {new} b L P = record {
  begins = b;
  runs = λ ts now c. played-run (played L c);
  safe = λ ts now c. P.safe ts (store_of now) (played L c);
  untaken = λ ts now c. P.untaken ts (store_of now) (played L c);
  freed = λ ts now c x l f r later after d w.
      let k = P.freed ts (store_of now) (played L c) x l f r later (store_of after) (played (lasting L c) d) w in
      let e = played-run k.4 ∙ sym (played-run (played (lasting L c) (calls now k.0))) in
      (k.0, k.1, after_all now k.0, k.3, calls now k.0, subst (λ (s : Store). Free s x) e k.5);
  bounded = λ ts now c. (refl, P.bounded ts (store_of now) (played L c));
  in_range = λ ts now c t a after e.
      let k = P.in_range ts (store_of now) (played L c) t (turn t (store_of now)).answer (store_of after) (meets (lasting L c) t e) in
      let q = (kept (lasting L c) t e).answer in
      (λ z. k.0 (same-refused _ BadSize (omega arith) (sym z ∙ q)), λ z. k.1 (same-refused _ BadNumber (omega arith) (sym z ∙ q)));
}

-- THE THEOREM: a start that answers 100 (done), on any lent memory, has made such a memory
pub linked : (n g m : ℕ) (p new : Lent) → result_of 100 new ≡ start_by n g m p → Linked n g m new
linked n g m p new e =
    let b = begun n g m p new e in
    let s = b.tells.store in
    lasting-linked s (record { whole = b.tells.whole; tellable = rw s (run-tellable n g m b.limits) }) (promised n g m (store_of p) (store_of new) b.meets)
