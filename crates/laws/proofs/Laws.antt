-- DEMAND 3, in the user's words. Read this page with the user's text beside it.
--
-- `Yields d image batches o` (specs/Yields) says what the reader's calls give: step after step from position 0, each given the state that the
-- last one returned, until an end, the steps accept exactly these batches, each where it lies and with its entries where they stand, and end
-- with the outcome o. `run d calls (fresh buffer)` (specs/Runs) is our writer: any calls with any arguments, refused ones among them, from
-- position 0 with no batch open, each given the state that the call before it returned. Both are folds of what the calls' contracts cite.
-- `batches_of`, `outcome_in` and `boundary` are in specs/Laws. Outcomes and refusals go by their names; their numbers are in brackets, and in
-- `number_of` (the reader's specs/Outcome, and specs/Refusal of refusal).
use Rattle.std.specs.Prelude.{ℕ, ◌+◌, ◌≤◌, ◌≡◌, refl, ◌≢◌, true, false, cond, List, [], ◌++◌, map, length, take, Err}
use Rattle.std.proofs.Common.{sym, ◌∙◌, append-nil, arith, length-append, length-take-le}
use Rattle.number.specs.Limit.{limit}
use Rattle.xxh3.specs.Xxh3.{default_secret, xxh3_64}
use Rattle.xxh3.specs.Range.{hash_lt}
use Rattle.plan.specs.Cut.{zeros, length_zeros}
use Rattle.plan.specs.Journal.{expected}
use Rattle.dialect.specs.declared.Dialect.{Dialect}
use Rattle.dialect.specs.Dialect.{good}
use Rattle.dialect.specs.Good.{is_good}
use Rattle.refusal.specs.declared.Refusal.TheVariants.{State, NoRoom}
use Rattle.refusal.specs.Refusal.{answer_number}
use Rattle.reader.specs.declared.Outcome.TheVariants.{Clean, Torn}
use Rattle.writer.specs.Writing.{out_of_range, close_refusal}
use Rattle.laws.specs.Yields.{Place, Yields}
use Rattle.laws.specs.Append.{moved}
use Rattle.laws.specs.Journals.{before, journal, places, EachFits}
use Rattle.laws.specs.Laws.{batches_of, outcome_in, boundary}
use Rattle.laws.specs.Runs.{Call, AllWords, Standing, result, run, answers, fresh}
use Rattle.laws.specs.Kept.{Kept, shut, going, shut_of, sized_of, begun}
use Rattle.laws.proofs.Yields.{yields}
use Rattle.laws.proofs.Append.{appended}
use Rattle.laws.proofs.Journals as journals
use Rattle.laws.proofs.OurWriter.{kept}
use Rattle.laws.proofs.Numbers as numbers
use Rattle.laws.specs.Accepted.{Wanted, as_closed, calls_of, EachWritable, AllWrote}
use Rattle.laws.proofs.Accepted.{all_accepted}

-- ---- READING

module _ (d : Dialect) (g : good d ≡ true) where
  -- EVERY IMAGE within the size limit yields its batches and its outcome.
  pub reads : (image : List ℕ) → length image ≤ limit → Yields d image (batches_of d image) (outcome_in d image)
  reads image l = yields d image g l (batches_of d image) (outcome_in d image) (record { shows = refl; ends_in = refl })

  -- APPEND: reading an image A that ends clean and then any bytes B gives A's batches, B's with every position moved by A's length, and B's
  -- outcome. (The last valid position is part of what Yields says.)
  pub append : (A B : List ℕ) → length A + length B ≤ limit → outcome_in d A ≡ Clean
      → Yields d (A ++ B) (batches_of d A ++ moved (length A) (batches_of d B)) (outcome_in d B)
  append A B l clean =
      yields d (A ++ B) g (rw (length-append A B) l) (batches_of d A ++ moved (length A) (batches_of d B)) (outcome_in d B) (appended d xxh3_64 A B clean)

-- ---- OUR WRITER: any run of calls on a buffer xs, under one dialect. `words` says that the numbers handed in are u64.

module _ (d : Dialect) (xs : List ℕ) (calls : List Call) (words : AllWords calls) where
  -- where the run stands at its end: the buffer's bytes, the state, and the ledger of what the accepted calls put
  abbrev pub now : Standing
  now = run d calls (fresh xs)

  -- every state reached is in range, and no call on it answers State, 22
  pub state_in_range : out_of_range (length now.bytes) now.state ≡ false
  state_in_range = numbers.in_range d (length xs) (kept d xs calls words)

  pub no_22 : (c : Call) → ((result d c now.bytes now.state).reply.answer ≢ Err State) × (answer_number (result d c now.bytes now.state).reply.answer ≢ 22)
  no_22 c = let n = numbers.never_22 d (length xs) (kept d xs calls words) c in (n, numbers.not_22 _ n)

  -- close never answers NoRoom, 27
  pub no_27_to_close : (close_refusal d (length now.bytes) now.state ≢ Err NoRoom) × (answer_number (close_refusal d (length now.bytes) now.state) ≢ 27)
  no_27_to_close = let n = numbers.close_27 d (length xs) (kept d xs calls words) in (n, numbers.not_27 _ n)

  -- the buffer stays as long as it was
  pub same_size : length now.bytes ≡ length xs
  same_size = sized_of d (length xs) (kept d xs calls words)

  -- what stands before the position
  abbrev pub written : List ℕ
  written = take now.state.position now.bytes

  -- it is the encoding of the batches closed so far and, where one is open, of its Start and the entries put since
  pub written_is : written ≡ journal d xxh3_64 now.ledger.closed ++ cond now.state.«open» (begun d (length xs) now) []
  written_is = go (kept d xs calls words)
    where
      go : Kept d (length xs) now → written ≡ journal d xxh3_64 now.ledger.closed ++ cond now.state.«open» (begun d (length xs) now) []
      go (shut k) = rw k.shut (k.stands ∙ sym (append-nil (journal d xxh3_64 now.ledger.closed)))
      go (going k) = rw k.opened k.stands

  -- the batches that were closed, with where they lie
  abbrev pub batches : List Place
  batches = places d xxh3_64 0 now.ledger.closed

  module _ (closed : now.state.«open» ≡ false) where
    journal_is : written ≡ journal d xxh3_64 now.ledger.closed
    journal_is = (shut_of d (length xs) (kept d xs calls words) closed).stands

    each_fits : EachFits d now.ledger.closed
    each_fits = (shut_of d (length xs) (kept d xs calls words) closed).fit

    within : now.state.position ≤ length now.bytes
    within = (shut_of d (length xs) (kept d xs calls words) closed).within

    long : length written ≡ now.state.position
    long = length-take-le now.state.position now.bytes within

    module _ (g : good d ≡ true) where
      -- ROUND TRIP: what our writer wrote reads back as what was put, entry by entry, at the places where it stands, and Clean (0).
      pub round_trip : length xs ≤ limit → Yields d written batches Clean
      round_trip l =
          yields d written g (rw long (omega (arith, within, same_size))) batches Clean
          (rw journal_is (journals.round_trip d xxh3_64 (hash_lt default_secret) (is_good d g) now.ledger.closed each_fits))

      cut_size : (c z : ℕ) → c ≤ now.state.position → length (take c written ++ zeros z) ≡ c + z
      cut_size c z h = length-append (take c written) (zeros z) ∙ rw (length-take-le c written (rw long h), length_zeros z)

      -- CUT: a journal of closed batches from our writer, cut at any byte c and followed by any number z of zeros, yields exactly the batches
      -- lying wholly before the cut; Clean (0) at a boundary with no zeros, Torn (1) otherwise.
      pub cut : (c z : ℕ) → c ≤ now.state.position → c + z ≤ limit
          → Yields d (take c written ++ zeros z) (before c batches) (expected Clean Torn (boundary c batches) z)
      cut c z h l =
          yields d (take c written ++ zeros z) g (rw (cut_size c z h) l) (before c batches) (expected Clean Torn (boundary c batches) z)
          (rw journal_is (journals.cut_law d xxh3_64 (hash_lt default_secret) (is_good d g) now.ledger.closed each_fits c z (rw (← journal_is, long) h)))

-- THE CONVERSE: with room, batches of 1 to 4,294,967,295 entries and keys of 1 to 65,535 bytes, the calls made from the batches (open, the
-- puts, close, for each) are all accepted, and the ledger is those batches.
pub every_call_accepted : (d : Dialect) → good d ≡ true → (xs : List ℕ) → length xs ≤ limit → (bs : List Wanted) → EachWritable bs
    → length (journal d xxh3_64 (map (as_closed d) bs)) ≤ length xs
    → AllWrote (answers d (calls_of bs) (fresh xs)) × ((run d (calls_of bs) (fresh xs)).ledger.closed ≡ map (as_closed d) bs)
every_call_accepted d g xs short bs can room =
    let k = all_accepted d g xs short bs can room in
    (k.accepted, k.closed)
