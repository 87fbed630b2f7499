use Rattle.std.proofs.Common.{◌≡◌, ℕ, suc, ◌+◌, ◌-◌, ◌/◌, ◌%◌, ◌<◌, List, ◌++◌, ◌∷◌, [], length, take, drop, set, refl, sym, ap, ◌∙◌, arith, append_assoc, append-nil, length-take-le}
use lib.Seq.{take-length}
use Rattle.std.proofs.lemmas.List.{take_more_set}
use Rattle.number.specs.Number.{bytes}
use Rattle.number.specs.Part.{front}
use Rattle.number.specs.Laws.{length_bytes}
use Rattle.number.proofs.put.Goals as goal

bytes_suc : (n v : ℕ) → bytes (suc n) v ≡ v % 256 ∷ bytes n (v / 256)
unfolding bytes
bytes_suc n v = refl

bytes_none : (v : ℕ) → bytes 0 v ≡ []
unfolding bytes
bytes_none v = refl

-- a byte more of the number
put_more : (n i v : ℕ) (s : List ℕ) → i < n → i < length s → take (i + 1) (set s i (v % 256)) ++ bytes (n - (i + 1)) (v / 256) ≡ take i s ++ bytes (n - i) v
put_more n i v s l m =
    let e : n - i ≡ suc (n - (i + 1)) = omega arith in
    rw (e, bytes_suc, take_more_set, append_assoc)

put_done : (n v w i : ℕ) (s xs : List ℕ) → length s ≡ n → i ≡ n → take i s ++ bytes (n - i) w ≡ bytes n v → s ++ drop n xs ≡ front (bytes n v) xs
put_done n v w i s xs l e h =
    let z : n - i ≡ 0 = omega arith in
    let t : i ≡ length s = omega arith in
    let b : s ≡ bytes n v = sym (ap (λ m. take m s ++ bytes (n - i) w) t ∙ rw (z, bytes_none, take-length, append-nil)) ∙ h in
    rw (b, length_bytes)

pub loop-byte-init : goal.loop-byte-init
loop-byte-init g c = let e : g.row.N - 0 ≡ g.row.N = omega arith in ap (λ (n : ℕ). bytes n c.args.v) e

pub loop-byte-preserved : goal.loop-byte-preserved
loop-byte-preserved g c =
    let l = c.loop-byte in
    let e = length-take-le g.row.N c.args.buf.now c.requires in
    put_more g.row.N l.byte-index l.rest l.byte-items (omega arith) (omega arith) ∙ l.invariant

pub returns : goal.returns
returns g c =
    let l = c.loop-byte in
    let e = length-take-le g.row.N c.args.buf.now c.requires in
    put_done g.row.N c.args.v l.rest l.byte-index l.byte-items c.args.buf.now (omega arith) (omega arith) l.invariant
