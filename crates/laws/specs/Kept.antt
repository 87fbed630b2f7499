-- What every call of our writer keeps.
use Rattle.std.specs.Prelude.{ℕ, ◌+◌, ◌-◌, ◌^◌, ◌≤◌, ◌<◌, ◌≡◌, take, drop, Result, Ok, Err, IsOk, ⊤}
use Rattle.std.proofs.Math.Path.{refl, sym, ap}
use Rattle.std.proofs.Common.{◌∙◌, true≢false, arith, zero-add, length-append, take-append-drop, length-take-le}
use Rattle.std.proofs.Math.Bool.{true, false}
use mathlib.Core.List.{List, [], ◌∷◌, ◌++◌, append_assoc, append-nil}
use Rattle.std.proofs.Math.ListN.{length}
use Rattle.number.specs.Limit.{limit}
use Rattle.number.specs.Part.{over, length_over, take_over, between}
use Rattle.xxh3.specs.Xxh3.{xxh3_64}
use Rattle.dialect.specs.declared.Dialect.{Dialect}
use Rattle.dialect.specs.Dialect.{good}
use Rattle.refusal.specs.declared.Refusal.{Refusal}
use Rattle.entry.specs.Entry.{Put, start, body, end, put, put_all, put_batch, hashed, Fits, AllFit}
use Rattle.entry.specs.Sizes.{put_all_snoc, fit_snoc, batch_parts, start_size}
use Rattle.encode.specs.Laws.{end_length}
use Rattle.writer.specs.declared.WriterState.{WriterState}
use Rattle.writer.specs.Writing.{Outcome, settle, inside, outside, hashed_from, standing}
use Rattle.writer.specs.Laws.{hashed_stands}
use Rattle.laws.specs.Journals.{Closed, journal, journal_snoc, EachFits, each_snoc}
use Rattle.laws.specs.Runs.{Call, Ledger, ledger_of, Standing, add, file, note, settled}

-- under the dialect d, on a buffer of `size` bytes
module _ (d : Dialect) (size : ℕ) where
  -- the encoding of the batches closed so far
  abbrev pub filed : Standing → List ℕ
  filed r = journal d xxh3_64 r.ledger.closed

  -- the count of the batch that is open: the entries put, and those still to come
  abbrev pub count_of : Standing → ℕ
  count_of r = length r.ledger.current.entries + r.state.left

  -- its Start and the entries put so far
  abbrev pub begun : Standing → List ℕ
  begun r = put d (start (count_of r) r.ledger.current.seqno) [] ++ put_all d r.ledger.current.entries []

  -- no batch is open: before the position stands the encoding of the batches closed so far
  pub record Shut (r : Standing) : Type 0 where
    pub shut : r.state.«open» ≡ false
    pub none : r.state.left ≡ 0
    pub sized : length r.bytes ≡ size
    pub within : r.state.position ≤ length r.bytes
    pub stands : take r.state.position r.bytes ≡ filed r
    pub fit : EachFits d r.ledger.closed

  -- a batch is open: behind that stand its Start and the entries put, and the End has room
  pub record Going (r : Standing) : Type 0 where
    pub opened : r.state.«open» ≡ true
    pub few : count_of r ≤ limit
    pub sized : length r.bytes ≡ size
    pub place : r.state.start ≡ length (filed r)
    pub room : r.state.position + (9 + d.length) ≤ length r.bytes
    pub stands : take r.state.position r.bytes ≡ filed r ++ begun r
    pub fit : EachFits d r.ledger.closed
    pub seqno_fits : r.ledger.current.seqno < 256 ^ 8
    pub entries_fit : AllFit d r.ledger.current.entries

  pub data Kept (r : Standing) : Type 0 where
    shut : Shut r → Kept r
    going : Going r → Kept r

  pub shut_of : {r : Standing} → Kept r → r.state.«open» ≡ false → Shut r
  shut_of (shut k) e = k
  shut_of (going k) e = absurd (true≢false (sym k.opened ∙ e))

  pub going_of : {r : Standing} → Kept r → r.state.«open» ≡ true → Going r
  going_of (shut k) e = absurd (true≢false (sym e ∙ k.shut))
  going_of (going k) e = k

  pub sized_of : {r : Standing} → Kept r → length r.bytes ≡ size
  sized_of (shut k) = k.sized
  sized_of (going k) = k.sized

  -- the position is where what stands there ends
  reached : (r : Standing) → Going r → r.state.start + (13 + length (put_all d r.ledger.current.entries [])) ≡ r.state.position
  reached r k =
      let S = put d (start (count_of r) r.ledger.current.seqno) [] in
      let B = put_all d r.ledger.current.entries [] in
      let m = k.room in
      let e : length (take r.state.position r.bytes) ≡ length (filed r) + (13 + length B) =
      ap length k.stands ∙ length-append (filed r) (S ++ B) ∙ ap (λ (n : ℕ). length (filed r) + n) (length-append S B ∙ ap (λ (n : ℕ). n + length B) (start_size d (count_of r) r.ledger.current.seqno)) in
      let t : length (take r.state.position r.bytes) ≡ r.state.position = length-take-le r.state.position r.bytes (omega arith) in
      let p = k.place in
      omega arith

  pub going_started : (r : Standing) → Going r → r.state.start + 13 ≤ r.state.position
  going_started r k = let e = reached r k in omega arith

  -- where a call that wrote w leaves the run
  abbrev pub landed : Standing → List ℕ → (ℕ → WriterState) → Ledger → Standing
  landed r w t l = record { bytes = over r.state.position w r.bytes; state = t (r.state.position + length w); ledger = l }

  -- OPEN
  pub open_keeps : (r : Standing) → Shut r → (count seqno : ℕ) → count ≤ limit → seqno < 256 ^ 8 → r.state.position + (22 + d.length) ≤ length r.bytes
      → Kept (landed r (put d (start count seqno) []) (inside r.state.position count) (ledger_of r.ledger.closed seqno []))
  unfolding put_all AllFit
  open_keeps r k count seqno few fits room =
      let w = put d (start count seqno) [] in
      let n : length w ≡ 13 = start_size d count seqno in
      let l : length (over r.state.position w r.bytes) ≡ length r.bytes = length_over r.state.position w r.bytes (omega arith) in
      going (record {
        opened = refl;
        few = omega arith;
        sized = l ∙ k.sized;
        place = sym (length-take-le r.state.position r.bytes k.within) ∙ ap length k.stands;
        room = omega arith;
        stands = take_over r.state.position w r.bytes k.within ∙ ap (λ (x : List ℕ). x ++ w) k.stands ∙ ap (λ (x : List ℕ). filed r ++ x) (sym (append-nil w))
            ∙ ap (λ (n : ℕ). filed r ++ (put d (start n seqno) [] ++ [])) (sym (zero-add count));
        fit = k.fit;
        seqno_fits = fits;
        entries_fit = tt;
      })

  -- what stands before the new position, once w was put behind an open batch
  behind : (r : Standing) → Going r → (w : List ℕ)
      → take (r.state.position + length w) (over r.state.position w r.bytes) ≡ filed r ++ (put d (start (count_of r) r.ledger.current.seqno) [] ++ (put_all d r.ledger.current.entries [] ++ w))
  behind r k w =
      let S = put d (start (count_of r) r.ledger.current.seqno) [] in
      let B = put_all d r.ledger.current.entries [] in
      let m = k.room in
      take_over r.state.position w r.bytes (omega arith) ∙ ap (λ (x : List ℕ). x ++ w) k.stands
      ∙ append_assoc (filed r) (S ++ B) w ∙ ap (λ (x : List ℕ). filed r ++ x) (append_assoc S B w)

  -- PUT
  pub put_keeps : (r : Standing) → Going r → (p : Put) → Fits d (body p) → (r.state.left ≡ 0 → ⊥) → r.state.position + (length (put d (body p) []) + (9 + d.length)) ≤ length r.bytes
      → Kept (landed r (put d (body p) []) (inside r.state.start (r.state.left - 1)) (add d p r.ledger))
  put_keeps r k p fits some room =
      let w = put d (body p) [] in
      let q = r.ledger.current.seqno in
      let ps = r.ledger.current.entries in
      let at = r.state.position in
      let l : length (over at w r.bytes) ≡ length r.bytes = length_over at w r.bytes (omega arith) in
      let m : length (ps ++ (p ∷ [])) ≡ length ps + 1 = length-append ps (p ∷ []) in
      let c : count_of r ≡ length (ps ++ (p ∷ [])) + (r.state.left - 1) = omega (arith, m, some) in
      let f = k.few in
      going (record {
        opened = refl;
        few = omega (arith, c, f);
        sized = l ∙ k.sized;
        place = k.place;
        room = omega arith;
        stands = behind r k w ∙ ap (λ (x : List ℕ). filed r ++ (put d (start (count_of r) q) [] ++ x)) (sym (put_all_snoc d ps p))
            ∙ ap (λ (n : ℕ). filed r ++ (put d (start n q) [] ++ put_all d (ps ++ (p ∷ [])) [])) c;
        fit = k.fit;
        seqno_fits = k.seqno_fits;
        entries_fit = fit_snoc d ps p k.entries_fit fits;
      })

  -- what close hashes is what the checksum of the batch covers
  pub standing_is : (r : Standing) → Going r → standing r.bytes r.state ≡ hashed d (count_of r) r.ledger.current.seqno r.ledger.current.entries
  standing_is r k =
      let w = begun r in
      let m = k.room in
      let e = reached r k in
      let n : length (filed r) + hashed_from ≡ r.state.start + hashed_from = ap (λ (x : ℕ). x + hashed_from) (sym k.place) in
      let h : hashed_from ≤ length w = omega (arith, length-append (put d (start (count_of r) r.ledger.current.seqno) []) (put_all d r.ledger.current.entries []), start_size d (count_of r) r.ledger.current.seqno) in
      between (r.state.start + hashed_from) r.state.position r.bytes (filed r ++ take hashed_from w) (drop hashed_from w) (going_started r k) (omega arith)
      (k.stands ∙ ap (λ (x : List ℕ). filed r ++ x) (sym (take-append-drop hashed_from w)) ∙ sym (append_assoc (filed r) (take hashed_from w) (drop hashed_from w)))
      (length-append (filed r) (take hashed_from w) ∙ ap (λ (x : ℕ). length (filed r) + x) (length-take-le hashed_from w h) ∙ n)
      ∙ hashed_stands d (count_of r) r.ledger.current.seqno r.ledger.current.entries

  -- CLOSE
  pub close_keeps : (r : Standing) → Going r → good d ≡ true → r.state.left ≡ 0
      → Kept (landed r (put d (end (xxh3_64 (standing r.bytes r.state))) []) outside (file d r.ledger.current r.ledger))
  close_keeps r k g none =
      let b = r.ledger.current in
      let ps = b.entries in
      let sum = xxh3_64 (standing r.bytes r.state) in
      let w = put d (end sum) [] in
      let at = r.state.position in
      let n : length w ≡ 9 + d.length = end_length d sum g in
      let m = k.room in
      let l : length (over at w r.bytes) ≡ length r.bytes = length_over at w r.bytes (omega arith) in
      let c : count_of r ≡ length ps = omega (arith, none) in
      let f = k.few in
      let parts : ℕ → ℕ → List ℕ = λ i x. filed r ++ (put d (start i b.seqno) [] ++ (put_all d ps [] ++ put d (end x) [])) in
      shut (record {
        shut = refl;
        none = refl;
        sized = l ∙ k.sized;
        within = omega arith;
        stands = behind r k w ∙ ap (λ (x : List ℕ). parts (count_of r) (xxh3_64 x)) (standing_is r k) ∙ ap (λ (i : ℕ). parts i (xxh3_64 (hashed d i b.seqno ps))) c
            ∙ ap (λ (x : List ℕ). filed r ++ x) (sym (batch_parts d xxh3_64 b.seqno ps)) ∙ sym (journal_snoc d xxh3_64 r.ledger.closed b);
        fit = each_snoc d r.ledger.closed b k.fit (record { count_fits = omega (arith, c, f); seqno_fits = k.seqno_fits; fit = k.entries_fit });
      })

  -- A BATCH OF ONE ENTRY
  pub write_keeps : (r : Standing) → Shut r → (seqno : ℕ) (p : Put) → seqno < 256 ^ 8 → Fits d (body p) → r.state.position + length (put_batch d xxh3_64 seqno (p ∷ [])) ≤ length r.bytes
      → Kept (landed r (put_batch d xxh3_64 seqno (p ∷ [])) outside (file d (record { seqno = seqno; entries = p ∷ [] }) r.ledger))
  unfolding AllFit
  write_keeps r k seqno p fits fit room =
      let b : Closed = record { seqno = seqno; entries = p ∷ [] } in
      let w = put_batch d xxh3_64 seqno (p ∷ []) in
      let at = r.state.position in
      let l : length (over at w r.bytes) ≡ length r.bytes = length_over at w r.bytes room in
      shut (record {
        shut = refl;
        none = refl;
        sized = l ∙ k.sized;
        within = omega arith;
        stands = take_over at w r.bytes k.within ∙ ap (λ (x : List ℕ). x ++ w) k.stands ∙ sym (journal_snoc d xxh3_64 r.ledger.closed b);
        fit = each_snoc d r.ledger.closed b k.fit (record { count_fits = omega arith; seqno_fits = fits; fit = (fit, tt) });
      })

  -- a call that is refused leaves the run where it stood; one that is not, where its outcome says
  pub keeps_settled : (c : Call) (r : Standing) (n : Result ⊤ Refusal) (o : Outcome) → IsOk o.reply.answer → Kept r
      → (n ≡ Ok tt → Kept (record { bytes = o.bytes; state = o.reply.state; ledger = note d c r.ledger })) → Kept (settled d c r.ledger (settle n r.bytes r.state o))
  unfolding settled
  keeps_settled c r (Ok tt) o z k f = rw z (f refl)
  keeps_settled c r (Err why) o z k f = k
