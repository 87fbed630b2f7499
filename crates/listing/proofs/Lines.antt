-- A line as the code puts it, piece by piece. Assumes nothing.
use Rattle.std.specs.Prelude.{ℕ, ◌≡◌, List, ◌++◌}
use Rattle.std.proofs.Common.{append_assoc}
use Rattle.dialect.specs.declared.Dialect.{Dialect}
use Rattle.entry.specs.Entry.{item}
use Rattle.text.specs.Text.{ascii, decimal, or_dash}
use Rattle.listing.specs.Listing.{type_name, entry_line}

pub item_pieces : (d : Dialect) (code keyspace : ℕ) (key value : List ℕ)
    → ascii "item " ++ decimal keyspace ++ (ascii " " ++ type_name d code ++ ascii " ") ++ (or_dash key ++ ascii " " ++ or_dash value ++ ascii "\n") ≡ entry_line d (item code keyspace key value)
unfolding entry_line
item_pieces d code keyspace key value = go (ascii "item ") (decimal keyspace) (ascii " ") (type_name d code) (ascii " ") (or_dash key) (ascii " ") (or_dash value) (ascii "\n")
  where
    go : (a b c d e f g h i : List ℕ) → a ++ b ++ (c ++ d ++ e) ++ (f ++ g ++ h ++ i) ≡ a ++ b ++ c ++ d ++ e ++ f ++ g ++ h ++ i
    go a b c d e f g h i = simp append_assoc
