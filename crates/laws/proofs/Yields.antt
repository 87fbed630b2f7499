-- Every reading of the plan is one of the reader's calls.
use Rattle.std.specs.Prelude.{ℕ, ◌+◌, ◌-◌, ◌≤◌, ◌≡◌, true}
use Rattle.std.proofs.Math.Path.{refl, sym, ap}
use Rattle.std.proofs.Common.{◌∙◌, arith, length-drop, drop-drop}
use mathlib.Core.List.{List, [], ◌∷◌}
use Rattle.std.proofs.Math.ListN.{length, drop, length-append}
use Rattle.std.proofs.Math.Seq.{drop_at}
use borrow.Author.Tests.{le-ltb}
use Rattle.number.specs.Limit.{limit}
use Rattle.xxh3.specs.Xxh3.{xxh3_64}
use Rattle.plan.specs.Plan.{ok, later, run, run_at}
use Rattle.plan.specs.Reading.{Reading, next, read, read_nil, read_stop, read_next, Parsed, none, ends, more}
use Rattle.plan.proofs.Reading.{parsed}
use Rattle.plan.specs.Place.{at_run}
use Rattle.plan.specs.Ends.{within}
use Rattle.plan.specs.Journal.{all, outcome, Is}
use Rattle.dialect.specs.declared.Dialect.{Dialect}
use Rattle.dialect.specs.Dialect.{good, trailer}
use Rattle.dialect.specs.Asked.{buffer_refusal, image_refusal}
use Rattle.entry.specs.Entry.{Put, Entry, body, Stop, entry}
use Rattle.entry.specs.Decoded.{holds, meaning, or_answers, meant}
use Rattle.reader.specs.declared.Outcome.{Outcome}
use Rattle.reader.specs.declared.Outcome.TheVariants.{Clean, Torn}
use Rattle.reader.specs.declared.Stepped.{Stepped}
use Rattle.reader.specs.Batch.{Batch, batch, batch_plan}
use Rattle.reader.specs.Found.{outcome_of}
use Rattle.reader.specs.Reading.{told}
use Rattle.reader.specs.Body.{Body, held}
use Rattle.reader.proofs.Bridge.{hungry, bridge}
use Rattle.laws.specs.Yields.{Place, shown, answers_for, Entries, Filled, AllFilled, Yields}

-- the plan of batches reads s so: these batches, and this outcome
abbrev pub Reads : Dialect → (List ℕ → ℕ) → List ℕ → List Place → Outcome → Type 0
Reads d h s batches o = Is Clean Torn outcome_of (batch_plan d h) (hungry d h) (read (batch_plan d h) 0 s) batches o

module _ (d : Dialect) where
  told_next : (a : Batch) (i j : ℕ) (r : Reading Stop Batch) → told d (next a i j r) ≡ shown d a i j ∷ told d r
  unfolding told
  told_next (batch c q ps) i j r = refl

  told_answers : (at : ℕ) {x : List ℕ} → Parsed (batch_plan d xxh3_64) (hungry d xxh3_64) x
      → told d (read (batch_plan d xxh3_64) at x) ≡ answers_for d at (all (read (batch_plan d xxh3_64) at x)) (outcome Clean outcome_of (read (batch_plan d xxh3_64) at x))
  unfolding told answers_for all outcome
  told_answers at none = rw (read_nil (batch_plan d xxh3_64) (hungry d xxh3_64) at)
  told_answers at (ends {b} {s} {e} {p} q) = rw (read_stop (batch_plan d xxh3_64) (hungry d xxh3_64) at b s e p q)
  told_answers at (more u {r} {a} tk v) =
      let rest = read (batch_plan d xxh3_64) (at + length u) r in
      rw (read_next (batch_plan d xxh3_64) (hungry d xxh3_64) at u r a tk)
      (told_next a at (at + length u) rest ∙ ap (λ (l : List Stepped). shown d a at (at + length u) ∷ l) (told_answers (at + length u) v))

  module _ (s : List ℕ) (g : good d ≡ true) (l : length s ≤ limit) where
    -- an entry that the plan reads is what `decode` means
    meant_of : (at : ℕ) (e : Entry) (j : ℕ) → at ≤ length s → run_at (entry d) s at ≡ ok e j → meant d s at ≡ holds e j
    unfolding meant or_answers meaning image_refusal buffer_refusal
    meant_of at e j k h = rw (g, le-ltb limit (length s) l, le-ltb (length s) at k, h)

    entries_of : (at : ℕ) → at ≤ length s → (ps : List Put) (stop : ℕ) → Body d s at ps stop → Entries d s at ps stop
    unfolding Body Entries
    entries_of at k [] stop b = b
    entries_of at k (p ∷ ps) stop b = (b.0, meant_of at (body p) b.0 k b.1, entries_of b.0 (within (entry d) s at (body p) b.0 k b.1) ps stop b.2)

    filled_of : (a : Batch) (i j : ℕ) → i ≤ length s → run_at (batch_plan d xxh3_64) s i ≡ ok a j → Filled d s a i j
    filled_of (batch c q ps) i j k h =
        let w = held d s xxh3_64 i c q ps j k h in
        let e : w.over ≡ j - (9 + length (trailer d)) = omega (arith, w.behind) in
        (w.counted, entries_of (i + 13) w.within ps (j - (9 + length (trailer d))) (rw e at w.entries))

    all_filled : (at : ℕ) → at ≤ length s → {x : List ℕ} → Parsed (batch_plan d xxh3_64) (hungry d xxh3_64) x → drop at s ≡ x → AllFilled d s (all (read (batch_plan d xxh3_64) at x))
    unfolding AllFilled all
    all_filled at k none e = rw (read_nil (batch_plan d xxh3_64) (hungry d xxh3_64) at) tt
    all_filled at k (ends {b} {s} {e} {p} q) f = rw (read_stop (batch_plan d xxh3_64) (hungry d xxh3_64) at b s e p q) tt
    all_filled at k (more u {r} {a} tk v) e =
        let t = batch_plan d xxh3_64 in
        let h : run_at t s at ≡ ok a (at + length u) = at_run t s at ∙ ap (λ (x : List ℕ). later at (run t x)) e ∙ ap (later at) (tk r) in
        let n : length s - at ≡ length u + length r = sym (length-drop at s) ∙ ap length e ∙ length-append u r in
        let f : drop (at + length u) s ≡ r = sym (drop-drop (length u) at s) ∙ ap (drop (length u)) e ∙ drop_at u r (length u) refl in
        rw (read_next t (hungry d xxh3_64) at u r a tk) (filled_of a at (at + length u) k h, all_filled (at + length u) (omega arith) v f)

    -- THE BRIDGE
    pub yields : (batches : List Place) (o : Outcome) → Reads d xxh3_64 s batches o → Yields d s batches o
    yields batches o w =
        record {
          answers = bridge d xxh3_64 s g l ∙ told_answers 0 (parsed (batch_plan d xxh3_64) (hungry d xxh3_64) s)
              ∙ ap (λ (x : List Place). answers_for d 0 x (outcome Clean outcome_of (read (batch_plan d xxh3_64) 0 s))) w.shows ∙ ap (answers_for d 0 batches) w.ends_in;
          entries = rw w.shows at (all_filled 0 (omega arith) (parsed (batch_plan d xxh3_64) (hungry d xxh3_64) s) refl);
        }
