-- Every call of our writer keeps what Kept says, so it holds after any run of calls.
use Rattle.std.specs.Prelude.{ℕ, ◌^◌, ◌≤◌, ◌<◌, ◌≡◌, Bool, eqb, ltb}
use Rattle.std.proofs.Math.Path.{refl}
use Rattle.std.proofs.Math.Bool.{true, false}
use mathlib.Core.List.{List, [], ◌∷◌}
use native.Mathlib.Omega.{arith}
use Rattle.std.proofs.Math.ListN.{length}
use borrow.Author.Tests.{eqb-false, ltb-false}
use Rattle.number.specs.Limit.{limit}
use Rattle.xxh3.specs.Xxh3.{xxh3_64}
use Rattle.dialect.specs.declared.Dialect.{Dialect}
use Rattle.dialect.specs.Dialect.{code_of}
use Rattle.dialect.specs.Good.{is_good}
use Rattle.refusal.specs.Laws.{not_or}
use Rattle.entry.specs.Entry.{body, put, Fits}
use Rattle.entry.specs.Sizes.{item_size, one_size, code_is_type}
use Rattle.encode.specs.Encoding.{key_too_long}
use Rattle.writer.specs.Writing.{open_refusal, put_refusal, close_refusal, write_refusal, wrong_put, open_call, put_call, close_call, write_call}
use Rattle.writer.specs.Laws.{open_ok, put_ok, close_ok, write_ok}
use Rattle.laws.specs.Journals.{journal, EachFits}
use Rattle.laws.specs.Runs.{Given, item, clear, Call, opens, puts, closes, writes, keyspace_of, coded, Words, AllWords, Standing, result, note, after, run, fresh}
use Rattle.laws.specs.Kept.{Kept, shut, shut_of, going_of, open_keeps, put_keeps, close_keeps, write_keeps, keeps_settled}

module _ (d : Dialect) where
  -- an entry whose key is short enough and that has room fits its fields
  key_fits : (g : Given) → keyspace_of g < 256 ^ 8 → key_too_long (body (coded d g)) ≡ false → length (put d (body (coded d g)) []) ≤ limit → Fits d (body (coded d g))
  unfolding keyspace_of coded Fits
  key_fits (item type keyspace key value) f k l =
      let y = ltb-false 65_535 (length key) k in
      let n = item_size d (code_of d type) keyspace key value in
      (code_is_type d type, f, omega arith, omega arith)
  key_fits (clear keyspace) f k l = f

  -- a key that may be put is short enough
  put_key : (g : Given) → wrong_put (coded d g) ≡ false → key_too_long (body (coded d g)) ≡ false
  unfolding coded
  put_key (item type keyspace key value) h = (not_or (eqb (length key) 0) (ltb 65_535 (length key)) h).1
  put_key (clear keyspace) h = refl

module _ (d : Dialect) (size : ℕ) where
  open_step : (count seqno : ℕ) → seqno < 256 ^ 8 → (r : Standing) → Kept d size r → (b : Bool) → eqb count 0 ≡ b → Kept d size (after d (opens count seqno) r)
  unfolding after result open_call note
  open_step count seqno fits r k true e =
      rw e
      (keeps_settled d size (opens count seqno) r (open_refusal d (length r.bytes) r.state count) _ refl k
      (λ z. rw e k))
  open_step count seqno fits r k false e =
      rw e
      (keeps_settled d size (opens count seqno) r (open_refusal d (length r.bytes) r.state count) _ refl k
      (λ z.
      let o = open_ok d (length r.bytes) r.state count (eqb-false count 0 e) z in
      rw e (open_keeps d size r (shut_of d size k o.shut) count seqno o.few fits o.room)))

  step : (c : Call) → Words c → (r : Standing) → Kept d size r → Kept d size (after d c r)
  unfolding Words after result put_call close_call write_call note
  step (opens count seqno) f r k = open_step count seqno f r k (eqb count 0) refl
  step (puts g) f r k =
      let p = coded d g in
      let n = length (put d (body p) []) in
      keeps_settled d size (puts g) r (put_refusal d (length r.bytes) r.state (wrong_put p) n) _ refl k
      (λ z.
      let o = put_ok d (length r.bytes) r.state (wrong_put p) n z in
      let s = o.ready.short in
      let m = o.room in
      put_keeps d size r (going_of d size k o.opened) p (key_fits d g f (put_key d g o.right) (omega arith)) o.counted m)
  step closes f r k =
      keeps_settled d size closes r (close_refusal d (length r.bytes) r.state) _ refl k
      (λ z.
      let o = close_ok d (length r.bytes) r.state z in
      close_keeps d size r (going_of d size k o.opened) o.ready.fine o.counted)
  step (writes seqno g) f r k =
      let p = coded d g in
      let n = length (put d (body p) []) in
      keeps_settled d size (writes seqno g) r (write_refusal d (length r.bytes) r.state (key_too_long (body p)) n) _ refl k
      (λ z.
      let o = write_ok d (length r.bytes) r.state (key_too_long (body p)) n z in
      let s = o.ready.short in
      let m = o.room in
      let y = (is_good d o.ready.fine).size in
      let e = one_size d xxh3_64 seqno p in
      write_keeps d size r (shut_of d size k o.shut) seqno p f.0 (key_fits d g f.1 o.right (omega arith)) (omega arith))

  keeps : (cs : List Call) → AllWords cs → (r : Standing) → Kept d size r → Kept d size (run d cs r)
  unfolding AllWords run
  keeps [] f r k = k
  keeps (c ∷ cs) f r k = keeps cs f.1 (after d c r) (step c f.0 r k)

-- after any run of calls from the start
pub kept : (d : Dialect) (xs : List ℕ) (cs : List Call) → AllWords cs → Kept d (length xs) (run d cs (fresh xs))
unfolding EachFits journal
kept d xs cs f = keeps d (length xs) cs f (fresh xs) (shut (record { shut = refl; none = refl; sized = refl; within = omega arith; stands = refl; fit = tt }))
