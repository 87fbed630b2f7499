-- How long entries are, and how they stand one behind another. Assumes nothing.
use Rattle.std.specs.Prelude.{ℕ, ◌+◌, ◌≡◌, true}
use Rattle.std.proofs.Math.Path.{refl, sym, ap}
use Rattle.std.proofs.Common.{◌∙◌, arith}
use mathlib.Core.List.{List, [], ◌∷◌, ◌++◌, append-nil}
use Rattle.std.proofs.Math.ListN.{length, length-append}
use Rattle.number.specs.Laws.{length_bytes}
use Rattle.plan.specs.Plan.{puts, puts_append}
use Rattle.dialect.specs.declared.Dialect.{Dialect}
use Rattle.dialect.specs.declared.ValueType.{ValueType}
use Rattle.dialect.specs.declared.ValueType.TheVariants.{Value, Tombstone, WeakTombstone, Indirection}
use Rattle.dialect.specs.Dialect.{trailer, code_of}
use Rattle.entry.specs.Entry.{Put, item, clear, Entry, start, body, end, head_row, clear_row, joined, is_type, layout, put, put_all, hashed, put_batch, Fits, AllFit}

-- an Item's head and a Clear
pub head_size : (code none keyspace key value : ℕ) → length (joined (head_row code none keyspace key value)) ≡ 21
unfolding puts
head_size code none keyspace key value = simp (length-append, length_bytes)

pub clear_row_size : (keyspace : ℕ) → length (joined (clear_row keyspace)) ≡ 9
unfolding puts
clear_row_size keyspace = simp (length-append, length_bytes)

module _ (d : Dialect) where
  pub put_append : (e : Entry) (w x : List ℕ) → put d e w ++ x ≡ put d e (w ++ x)
  put_append e w x = puts_append (layout d e) w x

  pub put_all_append : (ps : List Put) (w x : List ℕ) → put_all d ps w ++ x ≡ put_all d ps (w ++ x)
  unfolding put_all
  put_all_append [] w x = refl
  put_all_append (p ∷ ps) w x = put_append (body p) (put_all d ps w) x ∙ ap (put d (body p)) (put_all_append ps w x)

  -- one entry more
  pub put_all_snoc : (ps : List Put) (p : Put) → put_all d (ps ++ (p ∷ [])) [] ≡ put_all d ps [] ++ put d (body p) []
  unfolding put_all
  put_all_snoc [] p = refl
  put_all_snoc (x ∷ ps) p = ap (put d (body x)) (put_all_snoc ps p) ∙ sym (put_append (body x) (put_all d ps []) (put d (body p) []))

  -- what the checksum covers before the first entry, and with one more
  pub hashed_none : (count seqno : ℕ) → hashed d count seqno [] ≡ []
  unfolding hashed put_all
  hashed_none count seqno = refl

  pub hashed_snoc : (count seqno : ℕ) (ps : List Put) (p : Put) → hashed d count seqno (ps ++ (p ∷ [])) ≡ hashed d count seqno ps ++ put d (body p) []
  unfolding hashed
  hashed_snoc count seqno ps p = put_all_snoc ps p

  -- an Item is its head, its key and its value
  pub item_parts : (code keyspace : ℕ) (key value : List ℕ) → put d (body (item code keyspace key value)) [] ≡ joined (head_row code d.none keyspace (length key) (length value)) ++ (key ++ value)
  unfolding layout
  item_parts code keyspace key value = sym (puts_append (head_row code d.none keyspace (length key) (length value)) [] (key ++ value) ∙ go)
    where
      go : puts (head_row code d.none keyspace (length key) (length value)) (key ++ value) ≡ puts (head_row code d.none keyspace (length key) (length value) ++ (key ∷ value ∷ [])) []
      go = unfold puts in rw (append-nil value)

  pub clear_parts : (keyspace : ℕ) → put d (body (clear keyspace)) [] ≡ joined (clear_row keyspace)
  unfolding layout
  clear_parts keyspace = refl

  pub fit_snoc : (ps : List Put) (p : Put) → AllFit d ps → Fits d (body p) → AllFit d (ps ++ (p ∷ []))
  unfolding AllFit
  fit_snoc [] p f h = (h, tt)
  fit_snoc (x ∷ ps) p f h = (f.0, fit_snoc ps p f.1 h)

  -- what open, puts and close write, one behind another, is the batch
  pub batch_parts : (h : List ℕ → ℕ) (q : ℕ) (ps : List Put)
      → put_batch d h q ps ≡ put d (start (length ps) q) [] ++ (put_all d ps [] ++ put d (end (h (hashed d (length ps) q ps))) [])
  unfolding put_batch
  batch_parts h q ps = sym (put_append (start (length ps) q) [] _ ∙ ap (put d (start (length ps) q)) (put_all_append ps [] (put d (end (h (hashed d (length ps) q ps))) [])))

  -- lengths
  pub start_size : (c q : ℕ) → length (put d (start c q) []) ≡ 13
  unfolding layout puts
  start_size c q = simp (length-append, length_bytes)

  pub clear_size : (ks : ℕ) → length (put d (body (clear ks)) []) ≡ 9
  unfolding layout
  clear_size ks = clear_row_size ks

  pub item_size : (ty ks : ℕ) (key val : List ℕ) → length (put d (body (item ty ks key val)) []) ≡ 21 + length key + length val
  item_size ty ks key val =
      rw (item_parts ty ks key val, length-append, head_size, length-append) (omega arith)

  pub end_size : (s : ℕ) → length (put d (end s) []) ≡ 9 + length (trailer d)
  unfolding layout puts
  end_size s = simp (length-append, length_bytes) (omega arith)

  pub one_size : (h : List ℕ → ℕ) (q : ℕ) (p : Put) → length (put_batch d h q (p ∷ [])) ≡ 22 + length (trailer d) + length (put d (body p) [])
  unfolding put_all
  one_size h q p = rw (batch_parts h q (p ∷ []), length-append, length-append, start_size, end_size) (omega arith)

  -- each type has a code
  pub code_is_type : (t : ValueType) → is_type d (code_of d t) ≡ true
  unfolding is_type
  code_is_type Value = grind arith
  code_is_type Tombstone = grind arith
  code_is_type WeakTombstone = grind arith
  code_is_type Indirection = grind arith
