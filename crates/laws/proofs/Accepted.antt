-- THE CONVERSE: given room, true counts and keys of 1 to 65,535 bytes, the calls made from batches are all accepted, and the ledger is
-- those batches.
use Prim.Native.Nat.{ℕ, suc, ◌+◌, ◌-◌, ◌≤◌}
use Rattle.std.specs.Prelude.{◌≡◌, Bool, true, false, Result, Ok, is_ok, IsOk, ⊤}
use Rattle.std.proofs.Math.Path.{refl, ap}
use Rattle.std.proofs.Common.{sym, subst, ◌∙◌, add-zero}
use mathlib.Core.List.{List, [], ◌∷◌, ◌++◌, map, append-nil}
use native.Mathlib.Omega.{arith}
use Rattle.std.proofs.Math.ListN.{length, length-append}
use Rattle.std.proofs.Math.Seq.{append_snoc}
use borrow.Author.Tests.{ne_eqb}
use Rattle.number.specs.Limit.{limit}
use Rattle.number.specs.Part.{over, length_over}
use Rattle.xxh3.specs.Xxh3.{xxh3_64}
use Rattle.dialect.specs.declared.Dialect.{Dialect}
use Rattle.dialect.specs.Dialect.{good}
use Rattle.dialect.specs.Asked.{buffer_refusal}
use Rattle.refusal.specs.declared.Refusal.{Refusal}
use Rattle.entry.specs.Entry.{Put, start, body, end, put, put_all, hashed}
use Rattle.entry.specs.Sizes.{put_append, batch_parts, start_size}
use Rattle.encode.specs.Laws.{end_length}
use Rattle.writer.specs.Writing.{out_of_range, no_room, shared_refusal, open_refusal, put_refusal, close_refusal, wrong_put, Outcome, settle, inside, outside, wrote, standing, open_call, put_call, close_call}
use Rattle.writer.specs.Laws.{settle_done}
use Rattle.laws.specs.Journals.{Closed, bytes_of, journal}
use Rattle.laws.specs.Runs.{Given, item, clear, Call, opens, puts, closes, Ledger, ledger_of, Standing, coded, result, note, settled, after, run, answers, fresh}
use Rattle.laws.specs.Accepted.{Wanted, calls_of, KeyFits, AllKeyFit, EachWritable, AllWrote, as_closed}

module _ (d : Dialect) where
  -- ---- sizes

  puts_size : (p : Put) (ps : List Put) → length (put_all d (p ∷ ps) []) ≡ length (put d (body p) []) + length (put_all d ps [])
  unfolding put_all
  puts_size p ps = ap length (sym (put_append d (body p) [] (put_all d ps []))) ∙ length-append (put d (body p) []) (put_all d ps [])

  batch_size : good d ≡ true → (b : Closed) → length (bytes_of d xxh3_64 b) ≡ 13 + length (put_all d b.entries []) + (9 + d.length)
  batch_size g b =
      let ps = b.entries in
      let S = put d (start (length ps) b.seqno) [] in
      let B = put_all d ps [] in
      let sum = xxh3_64 (hashed d (length ps) b.seqno ps) in
      let E = put d (end sum) [] in
      let e : length (bytes_of d xxh3_64 b) ≡ length S + (length B + length E) = ap length (batch_parts d xxh3_64 b.seqno ps) ∙ length-append S (B ++ E) ∙ ap (λ (n : ℕ). length S + n) (length-append B E) in
      omega (arith, e, start_size d (length ps) b.seqno, end_length d sum g)

  key_right : (g : Given) → KeyFits g → wrong_put (coded d g) ≡ false
  unfolding KeyFits coded
  key_right (item type keyspace key value) h =
      let a = h.0 in
      let b = h.1 in
      grind arith
  key_right (clear keyspace) h = refl

  module _ (g : good d ≡ true) (len : ℕ) (short : len ≤ limit) where
    -- ---- no refusal

    open_none : (count at : ℕ) → 1 ≤ count → count ≤ limit → at + (22 + d.length) ≤ len → open_refusal d len (outside at) count ≡ Ok tt
    unfolding open_refusal shared_refusal buffer_refusal out_of_range no_room
    open_none count at some few room = grind arith

    put_none : (from left at : ℕ) (wrong : Bool) (size : ℕ) → suc left ≤ limit → from + 13 ≤ at → wrong ≡ false → at + (size + (9 + d.length)) ≤ len → put_refusal d len (inside from (suc left) at) wrong size ≡ Ok tt
    unfolding put_refusal shared_refusal buffer_refusal out_of_range no_room
    put_none from left at wrong size few s e room = grind arith

    close_none : (from at : ℕ) → from + 13 ≤ at → at + (9 + d.length) ≤ len → close_refusal d len (inside from 0 at) ≡ Ok tt
    unfolding close_refusal shared_refusal buffer_refusal out_of_range no_room
    close_none from at s room = grind arith

  -- ---- runs

  -- from r on the calls are all accepted, and lead to these closed batches and this position
  pub record Goes (cs : List Call) (r : Standing) (bs : List Closed) (to : ℕ) : Type 0 where
    pub accepted : AllWrote (answers d cs r)
    pub closed : (run d cs r).ledger.closed ≡ bs
    pub state : (run d cs r).state ≡ outside to

  goes_none : (r : Standing) (to : ℕ) → r.state ≡ outside to → Goes [] r r.ledger.closed to
  unfolding AllWrote answers run
  goes_none r to e = record { accepted = tt; closed = refl; state = e }

  -- an accepted call in front
  noted : (c : Call) (l : Ledger) (o : Outcome) → IsOk o.reply.answer → settled d c l o ≡ record { bytes = o.bytes; state = o.reply.state; ledger = note d c l }
  unfolding settled
  noted c l o w = rw w

  in_front : (c : Call) (cs : List Call) (r : Standing) (bs : List Closed) (to : ℕ) → IsOk (result d c r.bytes r.state).reply.answer → Goes cs (after d c r) bs to → Goes (c ∷ cs) r bs to
  unfolding AllWrote answers run
  in_front c cs r bs to w k = record { accepted = (w, k.accepted); closed = k.closed; state = k.state }

  goes_on : (c : Call) (cs : List Call) (r : Standing) (n : Result ⊤ Refusal) (o : Outcome) (bs : List Closed) (to : ℕ) → result d c r.bytes r.state ≡ settle n r.bytes r.state o → n ≡ Ok tt → IsOk o.reply.answer
      → Goes cs (record { bytes = o.bytes; state = o.reply.state; ledger = note d c r.ledger }) bs to → Goes (c ∷ cs) r bs to
  unfolding after
  goes_on c cs r n o bs to e z w k =
      let s : result d c r.bytes r.state ≡ o = e ∙ settle_done n r.bytes r.state o z in
      in_front c cs r bs to (ap (λ (x : Outcome). is_ok x.reply.answer) s ∙ w) (rw (s, noted c r.ledger o w) k)

  module _ (g : good d ≡ true) where
    -- the puts of a batch, with k for what follows them
    puts_go : (gs : List Given) (cs : List Call) (xs : List ℕ) (from at : ℕ) (closed : List Closed) (q : ℕ) (ps : List Put) (bs : List Closed) (to : ℕ)
        → length xs ≤ limit → AllKeyFit gs → length gs ≤ limit → from + 13 ≤ at → at + (length (put_all d (map (coded d) gs) []) + (9 + d.length)) ≤ length xs
        → ((ys : List ℕ) → length ys ≡ length xs → Goes cs (record { bytes = ys; state = inside from 0 (at + length (put_all d (map (coded d) gs) [])); ledger = ledger_of closed q (ps ++ map (coded d) gs) }) bs to)
        → Goes (map puts gs ++ cs) (record { bytes = xs; state = inside from (length gs) at; ledger = ledger_of closed q ps }) bs to
    unfolding put_all AllKeyFit result put_call note
    puts_go [] cs xs from at closed q ps bs to short keys few s room k = rw (add-zero at, append-nil ps) at (k xs refl)
    puts_go (x ∷ gs) cs xs from at closed q ps bs to short keys few s room k =
        let p = coded d x in
        let w = put d (body p) [] in
        let n = puts_size p (map (coded d) gs) in
        let l : length (over at w xs) ≡ length xs = length_over at w xs (omega (arith, n, room)) in
        let e : at + length w + length (put_all d (map (coded d) gs) []) ≡ at + length (put_all d (p ∷ map (coded d) gs) []) = omega (arith, n) in
        let r = inside from (suc (length gs)) at in
        let m = put_refusal d (length xs) r (wrong_put p) (length w) in
        let v : suc (length gs) - 1 ≡ length gs = omega arith in
        goes_on (puts x) (map puts gs ++ cs) (record { bytes = xs; state = r; ledger = ledger_of closed q ps }) m (wrote xs r w (inside from (length gs))) bs to
        (ap (λ (i : ℕ). settle m xs r (wrote xs r w (inside from i))) v)
        (put_none g (length xs) short from (length gs) at (wrong_put p) (length w) few s (key_right x keys.0) (omega (arith, n, room)))
        refl
        (puts_go gs cs (over at w xs) from (at + length w) closed q (ps ++ (p ∷ [])) bs to (rw l short) keys.1 (omega (arith, few)) (omega arith) (rw l (omega (arith, n, room)))
        (λ ys y. rw (e, append_snoc ps p (map (coded d) gs)) (k ys (y ∙ l))))

    -- the close of a batch, with k for what follows it
    close_go : (cs : List Call) (xs : List ℕ) (from at : ℕ) (closed : List Closed) (c : Closed) (bs : List Closed) (to : ℕ) → length xs ≤ limit → from + 13 ≤ at → at + (9 + d.length) ≤ length xs
        → ((ys : List ℕ) → length ys ≡ length xs → Goes cs (record { bytes = ys; state = outside (at + (9 + d.length)); ledger = record { closed = closed ++ (c ∷ []); current = c } }) bs to)
        → Goes (closes ∷ cs) (record { bytes = xs; state = inside from 0 at; ledger = record { closed = closed; current = c } }) bs to
    unfolding result close_call note
    close_go cs xs from at closed c bs to short s room k =
        let r = inside from 0 at in
        let sum = xxh3_64 (standing xs r) in
        let w = put d (end sum) [] in
        let n : length w ≡ 9 + d.length = end_length d sum g in
        let l : length (over at w xs) ≡ length xs = length_over at w xs (omega (arith, n, room)) in
        goes_on closes cs (record { bytes = xs; state = r; ledger = record { closed = closed; current = c } }) (close_refusal d (length xs) r) (wrote xs r w outside) bs to
        refl
        (close_none g (length xs) short from at s room)
        refl
        (subst (λ (i : ℕ). Goes cs (record { bytes = over at w xs; state = outside (at + i); ledger = record { closed = closed ++ (c ∷ []); current = c } }) bs to) (sym n) (k (over at w xs) l))

    -- batch after batch
    batches_go : (bs : List Wanted) (xs : List ℕ) (at : ℕ) (closed : List Closed) (q : ℕ) (ps : List Put) → length xs ≤ limit → EachWritable bs → at + length (journal d xxh3_64 (map (as_closed d) bs)) ≤ length xs
        → Goes (calls_of bs) (record { bytes = xs; state = outside at; ledger = ledger_of closed q ps }) (closed ++ map (as_closed d) bs) (at + length (journal d xxh3_64 (map (as_closed d) bs)))
    unfolding calls_of EachWritable journal result open_call note
    batches_go [] xs at closed q ps short can room =
        rw (append-nil closed) (goes_none (record { bytes = xs; state = outside at; ledger = ledger_of closed q ps }) (at + 0) (ap outside (sym (add-zero at))))
    batches_go (b ∷ bs) xs at closed q ps short can room =
        let c = as_closed d b in
        let gs = b.entries in
        let J = journal d xxh3_64 (map (as_closed d) bs) in
        let w = put d (start (length gs) b.seqno) [] in
        let B = length (put_all d c.entries []) in
        let a : length w ≡ 13 = start_size d (length gs) b.seqno in
        let n : length (bytes_of d xxh3_64 c ++ J) ≡ 13 + B + (9 + d.length) + length J = length-append (bytes_of d xxh3_64 c) J ∙ ap (λ (i : ℕ). i + length J) (batch_size g c) in
        let l : length (over at w xs) ≡ length xs = length_over at w xs (omega (arith, n, a, room)) in
        let some = can.0.some in
        let z : length gs ≡ 0 → ⊥ = λ y. omega (arith, y, some) in
        let r = outside at in
        let m = open_refusal d (length xs) r (length gs) in
        let o = wrote xs r w (inside at (length gs)) in
        goes_on (opens (length gs) b.seqno) (map puts gs ++ (closes ∷ calls_of bs)) (record { bytes = xs; state = r; ledger = ledger_of closed q ps }) m o (closed ++ (c ∷ map (as_closed d) bs)) (at + length (bytes_of d xxh3_64 c ++ J))
        (rw (ne_eqb (length gs) 0 z))
        (open_none g (length xs) short (length gs) at some can.0.few (omega (arith, n, room)))
        refl
        (rw (ne_eqb (length gs) 0 z)
        (puts_go gs (closes ∷ calls_of bs) (over at w xs) at (at + length w) closed b.seqno [] (closed ++ (c ∷ map (as_closed d) bs)) (at + length (bytes_of d xxh3_64 c ++ J)) (rw l short) can.0.keys can.0.few (omega (arith, a)) (rw l (omega (arith, n, a, room)))
        (λ ys y.
        close_go (calls_of bs) ys at (at + length w + B) closed c (closed ++ (c ∷ map (as_closed d) bs)) (at + length (bytes_of d xxh3_64 c ++ J)) (rw (y, l) short) (omega (arith, a)) (rw (y, l) (omega (arith, n, a, room)))
        (λ zs v.
        let e : at + length w + B + (9 + d.length) + length J ≡ at + length (bytes_of d xxh3_64 c ++ J) = omega (arith, n, a) in
        rw (e, append_snoc closed c (map (as_closed d) bs)) at (batches_go bs zs (at + length w + B + (9 + d.length)) (closed ++ (c ∷ [])) b.seqno c.entries (rw (v, y, l) short) can.1 (rw (v, y, l) (omega (arith, n, a, room))))))))

-- on a fresh buffer with room for them
pub all_accepted : (d : Dialect) → good d ≡ true → (xs : List ℕ) → length xs ≤ limit → (bs : List Wanted) → EachWritable bs → length (journal d xxh3_64 (map (as_closed d) bs)) ≤ length xs
    → Goes d (calls_of bs) (fresh xs) (map (as_closed d) bs) (length (journal d xxh3_64 (map (as_closed d) bs)))
all_accepted d g xs short bs can room =
    let J = journal d xxh3_64 (map (as_closed d) bs) in
    let e : 0 + length J ≡ length J = omega arith in
    rw e at (batches_go d g bs xs 0 [] 0 [] short can (omega arith))
