-- What the state after the bytes s holds, and that its end is the hash of s: for pieces in any cut.
use Rattle.std.specs.Prelude.{◌≡◌, refl, List, [], ◌∷◌, ◌++◌, ℕ, zero, suc, ◌+◌, ◌-◌, ◌*◌, ◌/◌, ◌%◌, ◌<◌, ◌≤◌, set, take}
use Rattle.std.proofs.Common.{sym, ◌∙◌, subst, append_assoc, append-nil, add-zero, zero-add, not-suc-le-zero, arith, length-append, get_or-set_same, get_or-set_other, get_or-take, length-take-le, ext_get_or}
use Rattle.std.proofs.Math.Path.{ap}
use Rattle.std.proofs.Math.Decide.{dec_le, dec_lt}
use Rattle.std.proofs.Math.ListN.{length, get_or, length-set, get_or-append}
use Rattle.std.proofs.Math.Seq.{get_or-append_seam}
use borrow.Author.Tests.{eq-eqb, ne_eqb, le-leb, lt-leb}
use Rattle.number.specs.Number.{times}
use Rattle.xxh3.specs.Xxh3.{prime64_1, initial_acc, accumulate, final_merge, hash, xxh3_64_large}
use Rattle.xxh3.specs.Classes.{hash_large}
use Rattle.xxh3.specs.Stripes.{stripes, stripes_split, large_by_stripes}
use Rattle.stream.specs.declared.Hasher.{Hasher}
use Rattle.stream.specs.Stream.{consumed, absorb1, absorbs, absorbs_all, joined, gather, ends, fresh}
use Rattle.stream.specs.Same.{accumulate_same, stripes_same}
use Rattle.stream.specs.Laws.{absorbs_none, absorbs_cons, absorbs_joined}

-- the state h stands for the bytes s
pub record Holds (k s : List ℕ) (h : Hasher) : Type 0 where
  pub count : h.total ≡ length s
  pub wide : length h.hold ≡ 256
  pub words : h.acc ≡ stripes k s ((length s - 1) / 256 * 4) 0 0 initial_acc
  pub held : (j : ℕ) → j < length s → length s ≤ j + 256 → get_or h.hold (j % 256) 0 ≡ get_or s j 0

pub holds_fresh : (k : List ℕ) → Holds k [] fresh
unfolding stripes
holds_fresh k = record { count = refl; wide = refl; words = refl; held = λ j l m. absurd (not-suc-le-zero l) }

-- one byte more
module _ (k s : List ℕ) (b : ℕ) where
  long_er : length (s ++ b ∷ []) ≡ length s + 1
  long_er = length-append s (b ∷ [])

  -- the stripes that s has whole are those of s with b
  kept : (m : ℕ) → m * 64 ≤ length s → (a : List ℕ) → stripes k s m 0 0 a ≡ stripes k (s ++ b ∷ []) m 0 0 a
  kept m l a = stripes_same k s (s ++ b ∷ []) m 0 0 0 a (λ x q. sym (get_or-append s (b ∷ []) 0 (0 + x) (omega arith)))

  held_more : (h : Hasher) → Holds k s h → (j : ℕ) → j < length s + 1 → length s + 1 ≤ j + 256 → get_or (set h.hold (length s % 256) b) (j % 256) 0 ≡ get_or (s ++ b ∷ []) j 0
  held_more h r j l m = go (dec_lt j (length s))
    where
      go : Dec (j < length s) → get_or (set h.hold (length s % 256) b) (j % 256) 0 ≡ get_or (s ++ b ∷ []) j 0
      go (yes q) = get_or-set_other h.hold (length s % 256) (j % 256) b 0 (λ e. omega arith) ∙ r.held j q (omega arith) ∙ sym (get_or-append s (b ∷ []) 0 j q)
      go (no f) =
          let e : j ≡ length s = omega arith in
          let w : length h.hold ≡ 256 = r.wide in
          ap (λ (n : ℕ). get_or (set h.hold (length s % 256) b) (n % 256) 0) e ∙ get_or-set_same h.hold (length s % 256) b 0 (omega arith)
          ∙ sym (get_or-append_seam s b [] 0) ∙ ap (λ (n : ℕ). get_or (s ++ b ∷ []) n 0) (sym e)

  -- the accumulators
  consumed_none : (a h : List ℕ) → length s ≡ 0 → consumed k a h (length s) ≡ a
  unfolding consumed
  consumed_none a h z = rw (eq-eqb (length s % 256) 0 (omega arith), eq-eqb (length s) 0 z)

  consumed_full : (a h : List ℕ) → length s % 256 ≡ 0 → (length s ≡ 0 → ⊥) → consumed k a h (length s) ≡ stripes k h 4 0 (length s / 64 - 4) a
  unfolding consumed
  consumed_full a h z f = rw (eq-eqb (length s % 256) 0 z, ne_eqb (length s) 0 f)

  consumed_not : (a h : List ℕ) → (length s % 256 ≡ 0 → ⊥) → consumed k a h (length s) ≡ a
  unfolding consumed
  consumed_not a h f = rw (ne_eqb (length s % 256) 0 f)

  words_more : (h : Hasher) → Holds k s h → consumed k h.acc h.hold (length s) ≡ stripes k (s ++ b ∷ []) (length s / 256 * 4) 0 0 initial_acc
  words_more h r = go (dec_le (length s) 0) (dec_le (length s % 256) 0)
    where
      n : ℕ
      n = length s

      go : Dec (length s ≤ 0) → Dec (length s % 256 ≤ 0) → consumed k h.acc h.hold (length s) ≡ stripes k (s ++ b ∷ []) (length s / 256 * 4) 0 0 initial_acc
      go (yes p) d =
          let z : length s ≡ 0 = omega arith in
          let e : (length s - 1) / 256 * 4 ≡ length s / 256 * 4 = omega arith in
          consumed_none h.acc h.hold z ∙ r.words ∙ ap (λ (m : ℕ). stripes k s m 0 0 initial_acc) e ∙ kept (length s / 256 * 4) (omega arith) initial_acc
      go (no f) (yes z) =
          let z₀ : length s % 256 ≡ 0 = omega arith in
          let e : length s / 256 * 4 ≡ (length s - 1) / 256 * 4 + 4 = omega arith in
          let t : length s / 64 - 4 ≡ (length s - 1) / 256 * 4 = omega arith in
          let q : ℕ = (length s - 1) / 256 * 4 in
          consumed_full h.acc h.hold z₀ (λ y. omega arith)
          ∙ (λ i. stripes k h.hold 4 0 (t i) ((r.words ∙ kept q (omega arith) initial_acc) i))
          ∙ stripes_same k h.hold (s ++ b ∷ []) 4 0 (0 + q * 64) q (stripes k (s ++ b ∷ []) q 0 0 initial_acc)
          (λ x l.
          let j : ℕ = 0 + q * 64 + x in
          let m : 0 + x ≡ j % 256 = omega arith in
          ap (λ (y : ℕ). get_or h.hold y 0) m ∙ r.held j (omega arith) (omega arith) ∙ sym (get_or-append s (b ∷ []) 0 j (omega arith)))
          ∙ ap (λ (y : ℕ). stripes k (s ++ b ∷ []) 4 (0 + q * 64) y (stripes k (s ++ b ∷ []) q 0 0 initial_acc)) (sym (zero-add q))
          ∙ sym (stripes_split k (s ++ b ∷ []) q 4 0 0 initial_acc) ∙ ap (λ (m : ℕ). stripes k (s ++ b ∷ []) m 0 0 initial_acc) (sym e)
      go (no f) (no g) =
          let e : (length s - 1) / 256 * 4 ≡ length s / 256 * 4 = omega arith in
          consumed_not h.acc h.hold (λ y. omega arith) ∙ r.words ∙ ap (λ (m : ℕ). stripes k s m 0 0 initial_acc) e ∙ kept (length s / 256 * 4) (omega arith) initial_acc

  pub holds_more : (h : Hasher) → Holds k s h → Holds k (s ++ b ∷ []) (absorb1 k h b)
  unfolding absorb1
  holds_more h r =
      let o : length (s ++ b ∷ []) ≡ length s + 1 = long_er in
      let c : h.total ≡ length s = r.count in
      record {
        count = omega arith;
        wide = length-set h.hold (h.total % 256) b ∙ r.wide;
        words =
            ap (consumed k h.acc h.hold) c ∙ words_more h r
            ∙ ap (λ (m : ℕ). stripes k (s ++ b ∷ []) (m / 256 * 4) 0 0 initial_acc) (omega arith);
        held =
            λ j l m.
            ap (λ (n : ℕ). get_or (set h.hold (n % 256) b) (j % 256) 0) c ∙ held_more h r j (omega arith) (omega arith);
      }

pub holds_all : (k s p : List ℕ) (h : Hasher) → Holds k s h → Holds k (s ++ p) (absorbs k h p)
holds_all k s [] h r = subst (λ (x : List ℕ). Holds k x (absorbs k h [])) (sym (append-nil s)) (subst (λ (g : Hasher). Holds k s g) (sym (absorbs_none k h)) r)
holds_all k s (b ∷ p) h r =
    subst (λ (g : Hasher). Holds k (s ++ b ∷ p) g) (sym (absorbs_cons k h b p))
    (subst (λ (x : List ℕ). Holds k x (absorbs k (absorb1 k h b) p)) (append_assoc s (b ∷ []) p) (holds_all k (s ++ b ∷ []) p (absorb1 k h b) (holds_more k s b h r)))

gather_suc : (h : List ℕ) (m i : ℕ) → gather h (suc m) i ≡ get_or h (i % 256) 0 ∷ gather h m (i + 1)
unfolding gather
gather_suc h m i = refl

gather_at : (h : List ℕ) (m f x : ℕ) → x < m → get_or (gather h m f) x 0 ≡ get_or h ((f + x) % 256) 0
gather_at h zero f x l = absurd (not-suc-le-zero l)
gather_at h (suc m) f zero l = ap (λ (y : List ℕ). get_or y 0 0) (gather_suc h m f) ∙ ap (λ (n : ℕ). get_or h (n % 256) 0) (sym (add-zero f))
gather_at h (suc m) f (suc x) l =
    let e : f + 1 + x ≡ f + suc x = omega arith in
    ap (λ (y : List ℕ). get_or y (suc x) 0) (gather_suc h m f) ∙ gather_at h m (f + 1) x (omega arith) ∙ ap (λ (n : ℕ). get_or h (n % 256) 0) e

ends_short : (k : List ℕ) (h : Hasher) → h.total ≤ 240 → ends k h ≡ hash k (take h.total h.hold)
unfolding ends
ends_short k h l = rw (le-leb h.total 240 l)

ends_long : (k : List ℕ) (h : Hasher) → 240 < h.total → ends k h ≡ final_merge k (times h.total prime64_1) 11 (accumulate k (gather h.hold 64 (h.total - 64)) 0 121 (stripes k h.hold ((h.total - 1) % 256 / 64) 0 ((h.total - 1) / 256 * 4) h.acc))
unfolding ends
ends_long k h l = rw (lt-leb h.total 240 l)

-- the end of a state that stands for s is the hash of s
pub ends_law : (k s : List ℕ) (h : Hasher) → Holds k s h → ends k h ≡ hash k s
ends_law k s h r = go (dec_le h.total 240)
  where
    short : h.total ≤ 240 → take h.total h.hold ≡ s
    short l =
        let c : h.total ≡ length s = r.count in
        let w : length h.hold ≡ 256 = r.wide in
        let t : length (take h.total h.hold) ≡ h.total = length-take-le h.total h.hold (omega arith) in
        ext_get_or 0 (take h.total h.hold) s (omega arith)
        (λ i m.
        let e : i ≡ i % 256 = omega arith in
        get_or-take h.total h.hold i 0 (omega arith) ∙ ap (λ (n : ℕ). get_or h.hold n 0) e ∙ r.held i (omega arith) (omega arith))

    main : 240 < length s → stripes k h.hold ((length s - 1) % 256 / 64) 0 ((length s - 1) / 256 * 4) h.acc ≡ stripes k s ((length s - 1) / 64) 0 0 initial_acc
    main l =
        let q : ℕ = (length s - 1) / 256 * 4 in
        let m : ℕ = (length s - 1) % 256 / 64 in
        let e : q + m ≡ (length s - 1) / 64 = omega arith in
        ap (stripes k h.hold m 0 q) r.words
        ∙ stripes_same k h.hold s m 0 (0 + q * 64) q (stripes k s q 0 0 initial_acc)
        (λ x b.
        let j : ℕ = 0 + q * 64 + x in
        let y : 0 + x ≡ j % 256 = omega arith in
        ap (λ (n : ℕ). get_or h.hold n 0) y ∙ r.held j (omega arith) (omega arith))
        ∙ ap (λ (y : ℕ). stripes k s m (0 + q * 64) y (stripes k s q 0 0 initial_acc)) (sym (zero-add q))
        ∙ sym (stripes_split k s q m 0 0 initial_acc) ∙ ap (λ (n : ℕ). stripes k s n 0 0 initial_acc) e

    last : 240 < length s → (a : List ℕ) → accumulate k (gather h.hold 64 (length s - 64)) 0 121 a ≡ accumulate k s (length s - 64) 121 a
    last l a =
        accumulate_same k (gather h.hold 64 (length s - 64)) s 0 (length s - 64)
        (λ x b. ap (λ (n : ℕ). get_or (gather h.hold 64 (length s - 64)) n 0) (zero-add x) ∙ gather_at h.hold 64 (length s - 64) x b ∙ r.held (length s - 64 + x) (omega arith) (omega arith)) 121 a

    whole : 240 < length s → final_merge k (times (length s) prime64_1) 11 (accumulate k (gather h.hold 64 (length s - 64)) 0 121 (stripes k h.hold ((length s - 1) % 256 / 64) 0 ((length s - 1) / 256 * 4) h.acc)) ≡ xxh3_64_large k s
    whole l = ap (final_merge k (times (length s) prime64_1) 11) (last l (stripes k h.hold ((length s - 1) % 256 / 64) 0 ((length s - 1) / 256 * 4) h.acc) ∙ ap (accumulate k s (length s - 64) 121) (main l)) ∙ large_by_stripes k s (omega arith)

    go : Dec (h.total ≤ 240) → ends k h ≡ hash k s
    go (yes l) = ends_short k h l ∙ ap (hash k) (short l)
    go (no f) =
        let c : h.total ≡ length s = r.count in
        let g : 240 < length s = omega arith in
        ends_long k h (omega arith)
        ∙ ap (λ (n : ℕ). final_merge k (times n prime64_1) 11 (accumulate k (gather h.hold 64 (n - 64)) 0 121 (stripes k h.hold ((n - 1) % 256 / 64) 0 ((n - 1) / 256 * 4) h.acc))) c
        ∙ whole g ∙ hash_large k s g

-- finishing after one piece, and after pieces in any cut
pub streamed : (k s : List ℕ) → ends k (absorbs k fresh s) ≡ hash k s
streamed k s = ends_law k s (absorbs k fresh s) (holds_all k [] s fresh (holds_fresh k))

pub streamed_all : (k : List ℕ) (ps : List (List ℕ)) → ends k (absorbs_all k fresh ps) ≡ hash k (joined ps)
streamed_all k ps = ap (ends k) (absorbs_joined k fresh ps) ∙ streamed k (joined ps)
