-- What a step of the reader gives to the listing. Assumes nothing.
use Prim.Native.Nat.{ℕ, ◌+◌, ◌≤◌, ◌<◌}
use mathlib.Core.Path.{◌≡◌, refl, sym, ap, ◌∙◌, subst}
use Rattle.std.specs.Prelude.{Result, Ok, Err, Some}
use mathlib.Core.Bool.{Bool, true, false, cond}
use mathlib.Core.List.{List, [], ◌∷◌, ◌++◌, append-nil}
use lib.ListN.{length, drop}
use lib.Dec.{leb}
use borrow.Author.Tests.{le-ltb, leb-true, leb-false}
use Rattle.number.specs.Limit.{limit}
use Rattle.xxh3.specs.Xxh3.{default_secret, hash}
use Rattle.plan.specs.Plan.{Plan, Res, ok, stop, run_at}
use Rattle.plan.specs.Reading.{read}
use Rattle.plan.specs.Place.{at_end}
use Rattle.plan.proofs.Place.{turn_batch, turn_stop, further}
use Rattle.plan.specs.Ends.{within}
use Rattle.dialect.specs.declared.Dialect.{Dialect}
use Rattle.dialect.specs.Dialect.{good}
use Rattle.entry.specs.Entry.{Put, Stop}
use Rattle.reader.specs.declared.Accepted.{Accepted}
use Rattle.reader.specs.declared.Outcome.{Outcome}
use Rattle.reader.specs.declared.Outcome.TheVariants.{Clean, Torn, Insufficient, TooMany, Mismatch}
use Rattle.reader.specs.declared.NoBatch.{NoBatch}
use Rattle.reader.specs.declared.NoBatch.TheVariants.{Ended}
use Rattle.reader.specs.declared.Reader.{Reader}
use Rattle.reader.specs.declared.Stepped.{Stepped}
use Rattle.reader.specs.Batch.{Batch, batch, batch_plan}
use Rattle.reader.specs.Found.{outcome_of, found, found_at}
use Rattle.reader.specs.Outcome.{number_of, outcome_at}
use Rattle.reader.specs.Reading.{strange, state_refusal, or_refused, reader, after, with_state, stepped, ending}
use Rattle.reader.proofs.Bridge.{hungry, step_at}
use Rattle.text.specs.Written.{Begins}
use Rattle.listing.specs.Listing.{batch_line, state_line, entry_line, entry_lines, reading_lines}
use Rattle.listing.specs.Walk.{line_of, next_of, lines_at, lines_from}
use Rattle.reader.specs.Body.{Body, held}

-- a number that an outcome has is not strange
known : (o : Outcome) → strange (Some (number_of o)) ≡ false
unfolding strange outcome_at
known Clean = refl
known Torn = refl
known Insufficient = refl
known TooMany = refl
known Mismatch = refl

-- the lines of a body, as the code meets them
lines_of : (d : Dialect) (s : List ℕ) (ps : List Put) (at e : ℕ) → Body d s at ps e → lines_at d s (length ps) at ≡ entry_lines d ps
unfolding Body lines_at line_of next_of entry_lines
lines_of d s [] at e b = refl
lines_of d s (p ∷ ps) at e b = rw b.1 (ap (λ (l : List ℕ). entry_line d p ++ l) (lines_of d s ps b.0 e b.2))

last : {text line : List ℕ} → text ≡ line → Begins text line []
last {text} {line} e = record { split = e ∙ sym (append-nil line) }

module _ (d : Dialect) (s : List ℕ) where
  abbrev h : List ℕ → ℕ
  h = hash default_secret

  abbrev t : Plan Stop Batch
  t = batch_plan d h

  -- the batch b was accepted at p, and the state is r
  pub record Taken (p : ℕ) (b : Accepted) (r : Reader) : Type 0 where
    pub lines : Begins (lines_from d s p) (batch_line p b.seqno b.count ++ lines_at d s b.count b.body) (lines_from d s r.position)
    pub fresh : r ≡ reader r.position
    pub onward : p < r.position
    pub inside : r.position ≤ length s
    pub begins : b.body ≤ length s

  -- the reading ended, and the state is r
  pub record Over (p : ℕ) (r : Reader) : Type 0 where
    pub lines : Begins (lines_from d s p) (state_line (length s) r) []
    pub sound : state_refusal (length s) r ≡ Ok tt

  module _ (g : good d ≡ true) (l : length s ≤ limit) (p : ℕ) (k : p ≤ length s) where
    sound_end : (o : Outcome) → state_refusal (length s) (after (reader p) (Err (Ended o))) ≡ Ok tt
    unfolding state_refusal after
    sound_end o = rw (le-ltb limit (length s) l, le-ltb (length s) p k, known o)

    -- what a step comes to
    unfoldable Comes : Result Accepted Outcome → Type 0
    Comes (Ok b) = Taken p b (after (reader p) (Ok b))
    Comes (Err o) = Over p (after (reader p) (Err (Ended o)))

    comes : Comes (found_at d h s p)
    unfolding Comes found_at found after ending lines_from reading_lines
    comes = go (leb (length s) p) refl (run_at t s p) refl
      where
        go : (b : Bool) → leb (length s) p ≡ b → (x : Res Stop Batch) → run_at t s p ≡ x → Comes (cond b (Err Clean) (found d (p + 13) x))
        go true eb x ex = record { lines = last (ap (reading_lines d (length s)) (at_end t (hungry d h) s p (leb-true (length s) p eb))); sound = sound_end Clean }
        go false eb (stop e q) ex = record { lines = last (ap (reading_lines d (length s)) (turn_stop t (hungry d h) s p (leb-false (length s) p eb) e q ex)); sound = sound_end (outcome_of e) }
        go false eb (ok (batch count seqno ps) j) ex =
            let w = held d s h p count seqno ps j k ex in
            let b : lines_at d s count (p + 13) ≡ entry_lines d ps = rw (← w.counted) (lines_of d s ps (p + 13) w.over w.entries) in
            record {
              lines = record { split = ap (reading_lines d (length s)) (turn_batch t (hungry d h) s p (batch count seqno ps) j ex) ∙ ap (λ (y : List ℕ). batch_line p seqno count ++ y ++ reading_lines d (length s) (read t j (drop j s))) (sym b) };
              fresh = refl;
              onward = further t (hungry d h) s p (batch count seqno ps) j ex;
              inside = within t s p (batch count seqno ps) j k ex;
              begins = w.within;
            }

    began : (x : Result Accepted Outcome) → Comes x → (b : Accepted) → or_refused (Ok tt) x ≡ Ok b → Taken p b (after (reader p) (or_refused (Ok tt) x))
    unfolding Comes or_refused
    began (Ok a) w b e = let f : a ≡ b = cc in subst (λ (z : Accepted). Taken p z (after (reader p) (Ok a))) f w
    began (Err o) w b e = absurd (cc)

    ended : (x : Result Accepted Outcome) → Comes x → (n : NoBatch) → or_refused (Ok tt) x ≡ Err n → Over p (after (reader p) (or_refused (Ok tt) x))
    unfolding Comes or_refused
    ended (Ok b) w n e = absurd (cc)
    ended (Err o) w n e = w

  -- the same of a state that is not ended, and of what the code calls the step's answer
  module _ (g : good d ≡ true) (l : length s ≤ limit) (st : Reader) (fresh : st ≡ reader st.position) (k : st.position ≤ length s) (r : Stepped) (e : r ≡ stepped d h s st) where
    abbrev there : Result Accepted Outcome
    there = found_at d h s st.position

    step_is : r ≡ with_state (reader st.position) (or_refused (Ok tt) there)
    step_is = e ∙ ap (stepped d h s) fresh ∙ step_at d h s g l st.position k

    answer_is : (a : Result Accepted NoBatch) → r.answer ≡ a → or_refused (Ok tt) there ≡ a
    answer_is a q = sym (ap (λ (x : Stepped). x.answer) step_is) ∙ q

    state_is : after (reader st.position) (or_refused (Ok tt) there) ≡ r.reader
    state_is = sym (ap (λ (x : Stepped). x.reader) step_is)

    pub taken : (b : Accepted) → r.answer ≡ Ok b → Taken st.position b r.reader
    taken b q = subst (Taken st.position b) state_is (began g l st.position k there (comes g l st.position k) b (answer_is (Ok b) q))

    pub over : (n : NoBatch) → r.answer ≡ Err n → Over st.position r.reader
    over n q = subst (Over st.position) state_is (ended g l st.position k there (comes g l st.position k) n (answer_is (Err n) q))
