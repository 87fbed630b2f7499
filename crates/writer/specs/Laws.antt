-- What is known where a call is not refused, and of what it then leaves.
use Rattle.std.specs.Prelude.{ℕ, ◌+◌, ◌-◌, ◌≤◌, ◌≡◌, Bool, true, false, cond, not, ◌||◌, List, [], ◌++◌, length, drop, ltb, eqb, Result, Ok, Err, ⊤}
use Rattle.std.proofs.Common.{arith, drop_at, ltb-false, ne_eqb, sym, ap, ◌∙◌}
use Rattle.std.proofs.lemmas.Bool.{false≢true, eqb-false}
use Rattle.number.specs.Limit.{limit}
use Rattle.number.specs.Part.{over}
use Rattle.dialect.specs.declared.Dialect.{Dialect}
use Rattle.dialect.specs.Dialect.{good}
use Rattle.dialect.specs.Good.{is_good}
use Rattle.dialect.specs.Asked.{buffer_refusal}
use Rattle.dialect.specs.Laws.{is_true, buffer_ok}
use Rattle.refusal.specs.declared.Refusal.{Refusal}
use Rattle.refusal.specs.declared.Refusal.TheVariants.{Count, Order, Key, Counted}
use Rattle.refusal.specs.Refusal.{when_of}
use Rattle.refusal.specs.Laws.{first_ok, when_ok, not_or}
use Rattle.entry.specs.Entry.{Put, start, put, put_all, hashed}
use Rattle.entry.specs.Sizes.{start_size}
use Rattle.writer.specs.declared.Reply.{Reply}
use Rattle.writer.specs.declared.WriterState.{WriterState}
use Rattle.writer.specs.Writing.{out_of_range, no_room, shared_refusal, open_refusal, put_refusal, close_refusal, write_refusal, Outcome, refused_reply, settle, inside, outside, wrote, hashed_from}

-- behind a Start, from where hashing begins, stands what the checksum covers
pub hashed_stands : (d : Dialect) (count seqno : ℕ) (ps : List Put) → drop hashed_from (put d (start count seqno) [] ++ put_all d ps []) ≡ hashed d count seqno ps
unfolding hashed
hashed_stands d count seqno ps = drop_at (put d (start count seqno) []) (put_all d ps []) 13 (start_size d count seqno)

-- ---- what no refusal gives

when_true : (o a b : Bool) → o ≡ true → cond o a b ≡ false → a ≡ false
when_true true a b e f = f
when_true false a b e f = absurd (false≢true e)

-- 20, 21 and 22 not given
pub record Ready (d : Dialect) (len : ℕ) (s : WriterState) : Type 0 where
  pub fine : good d ≡ true
  pub most : d.length ≤ 8
  pub short : len ≤ limit
  pub within : s.position ≤ len
  pub started : s.«open» ≡ true → s.start + 13 ≤ s.position
  pub few : s.left ≤ limit

pub shared_ok : (d : Dialect) (len : ℕ) (s : WriterState) → shared_refusal d len s ≡ Ok tt → Ready d len s
unfolding shared_refusal out_of_range
shared_ok d len s e =
    let g = first_ok (buffer_refusal d len) _ e in
    let f = buffer_ok d len g.0 in
    let b = when_ok (out_of_range len s) _ g.1 in
    let i = cond s.«open» (ltb s.position (s.start + 13)) (ltb 0 s.left) in
    let o = not_or (ltb len s.position || i) (ltb limit s.left) b in
    let v = not_or (ltb len s.position) i o.0 in
    record {
      fine = f.fine;
      most = (is_good d f.fine).most;
      short = f.short;
      within = ltb-false len s.position v.0;
      started = λ p. ltb-false s.position (s.start + 13) (when_true s.«open» _ (ltb 0 s.left) p v.1);
      few = ltb-false limit s.left o.1;
    }

-- room behind a position that is in the buffer
room_of : (len : ℕ) (s : WriterState) (need : ℕ) → s.position ≤ len → no_room len s need ≡ false → s.position + need ≤ len
unfolding no_room
room_of len s need w e = let r = ltb-false (len - s.position) need e in omega arith

pub record OpenReady (d : Dialect) (len : ℕ) (s : WriterState) (count : ℕ) : Type 0 where
  pub ready : Ready d len s
  pub shut : s.«open» ≡ false
  pub few : count ≤ limit
  pub room : s.position + (22 + d.length) ≤ len

pub open_ok : (d : Dialect) (len : ℕ) (s : WriterState) (count : ℕ) → (count ≡ 0 → ⊥) → open_refusal d len s count ≡ Ok tt → OpenReady d len s count
unfolding open_refusal
open_ok d len s count some e =
    let b = first_ok (shared_refusal d len s) _ e in
    let o = first_ok (when_of s.«open» Order) _ b.1 in
    let k = first_ok (when_of (ltb limit count) Count) _ o.1 in
    let r = shared_ok d len s b.0 in
    record {
      ready = r;
      shut = when_ok s.«open» _ o.0;
      few = ltb-false limit count (when_ok _ _ k.0);
      room = room_of len s (22 + d.length) r.within (rw (ne_eqb count 0 some) at (when_ok _ _ k.1));
    }

pub record PutReady (d : Dialect) (len : ℕ) (s : WriterState) (wrong : Bool) (size : ℕ) : Type 0 where
  pub ready : Ready d len s
  pub opened : s.«open» ≡ true
  pub counted : s.left ≡ 0 → ⊥
  pub right : wrong ≡ false
  pub room : s.position + (size + (9 + d.length)) ≤ len

pub put_ok : (d : Dialect) (len : ℕ) (s : WriterState) (wrong : Bool) (size : ℕ) → put_refusal d len s wrong size ≡ Ok tt → PutReady d len s wrong size
unfolding put_refusal
put_ok d len s wrong size e =
    let b = first_ok (shared_refusal d len s) _ e in
    let o = first_ok (when_of (not s.«open») Order) _ b.1 in
    let k = first_ok (when_of (eqb s.left 0) Counted) _ o.1 in
    let y = first_ok (when_of wrong Key) _ k.1 in
    let r = shared_ok d len s b.0 in
    record {
      ready = r;
      opened = is_true s.«open» (when_ok _ _ o.0);
      counted = eqb-false s.left 0 (when_ok _ _ k.0);
      right = when_ok wrong _ y.0;
      room = room_of len s (size + (9 + d.length)) r.within (when_ok _ _ y.1);
    }

pub record CloseReady (d : Dialect) (len : ℕ) (s : WriterState) : Type 0 where
  pub ready : Ready d len s
  pub opened : s.«open» ≡ true
  pub counted : s.left ≡ 0
  pub started : s.start + 13 ≤ s.position
  pub room : s.position + (9 + d.length) ≤ len

pub close_ok : (d : Dialect) (len : ℕ) (s : WriterState) → close_refusal d len s ≡ Ok tt → CloseReady d len s
unfolding close_refusal
close_ok d len s e =
    let b = first_ok (shared_refusal d len s) _ e in
    let o = first_ok (when_of (not s.«open») Order) _ b.1 in
    let k = first_ok (when_of (ltb 0 s.left) Counted) _ o.1 in
    let r = shared_ok d len s b.0 in
    let p = is_true s.«open» (when_ok _ _ o.0) in
    let l = ltb-false 0 s.left (when_ok _ _ k.0) in
    record {
      ready = r;
      opened = p;
      counted = omega arith;
      started = r.started p;
      room = room_of len s (9 + d.length) r.within (when_ok _ _ k.1);
    }

pub record WriteReady (d : Dialect) (len : ℕ) (s : WriterState) (wrong : Bool) (size : ℕ) : Type 0 where
  pub ready : Ready d len s
  pub shut : s.«open» ≡ false
  pub right : wrong ≡ false
  pub room : s.position + (22 + d.length + size) ≤ len

pub write_ok : (d : Dialect) (len : ℕ) (s : WriterState) (wrong : Bool) (size : ℕ) → write_refusal d len s wrong size ≡ Ok tt → WriteReady d len s wrong size
unfolding write_refusal
write_ok d len s wrong size e =
    let b = first_ok (shared_refusal d len s) _ e in
    let o = first_ok (when_of s.«open» Order) _ b.1 in
    let y = first_ok (when_of wrong Key) _ o.1 in
    let r = shared_ok d len s b.0 in
    record {
      ready = r;
      shut = when_ok s.«open» _ o.0;
      right = when_ok wrong _ y.0;
      room = room_of len s (22 + d.length + size) r.within (when_ok _ _ y.1);
    }

-- ---- what a call leaves

pub settle_done : (r : Result ⊤ Refusal) (xs : List ℕ) (s : WriterState) (o : Outcome) → r ≡ Ok tt → settle r xs s o ≡ o
settle_done r xs s o e = rw e

pub settle_not : (r : Result ⊤ Refusal) (xs : List ℕ) (s : WriterState) (o : Outcome) (why : Refusal) → r ≡ Err why → settle r xs s o ≡ record { bytes = xs; reply = refused_reply s why }
settle_not r xs s o why e = rw e

-- a call that wrote nothing, and calls that wrote w and left zs: a batch is open behind them, or none
pub idle_leaves : (n r : Result ⊤ Refusal) (xs : List ℕ) (s : WriterState) (o : Outcome) (a : Reply) → r ≡ n → r ≡ Ok tt → a ≡ o.reply → xs ≡ o.bytes
    → (a ≡ (settle n xs s o).reply) × (xs ≡ (settle n xs s o).bytes)
idle_leaves n r xs s o a e z p q = rw (settle_done n xs s o (sym e ∙ z)) (p, q)

-- so many bytes were written at a position, and this state is behind them
abbrev pub reply_at : (ℕ → WriterState) → ℕ → ℕ → Reply
reply_at t at size = record { state = t (at + size); answer = Ok size }

pub inside_leaves : (n r : Result ⊤ Refusal) (xs : List ℕ) (s : WriterState) (w : List ℕ) (from left size : ℕ) (a : Reply) (zs : List ℕ)
    → r ≡ n → r ≡ Ok tt → length w ≡ size → a ≡ reply_at (inside from left) s.position size → zs ≡ over s.position w xs
    → (a ≡ (settle n xs s (wrote xs s w (inside from left))).reply) × (zs ≡ (settle n xs s (wrote xs s w (inside from left))).bytes)
inside_leaves n r xs s w from left size a zs e z l p q =
    rw (settle_done n xs s (wrote xs s w (inside from left)) (sym e ∙ z)) (p ∙ ap (reply_at (inside from left) s.position) (sym l), q)

pub outside_leaves : (n r : Result ⊤ Refusal) (xs : List ℕ) (s : WriterState) (w : List ℕ) (size : ℕ) (a : Reply) (zs : List ℕ)
    → r ≡ n → r ≡ Ok tt → length w ≡ size → a ≡ reply_at outside s.position size → zs ≡ over s.position w xs
    → (a ≡ (settle n xs s (wrote xs s w outside)).reply) × (zs ≡ (settle n xs s (wrote xs s w outside)).bytes)
outside_leaves n r xs s w size a zs e z l p q =
    rw (settle_done n xs s (wrote xs s w outside) (sym e ∙ z)) (p ∙ ap (reply_at outside s.position) (sym l), q)
