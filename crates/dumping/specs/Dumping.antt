-- What a dump prints of a journal.
use Rattle.std.specs.Prelude.{ℕ, not, List, ◌++◌, length, ltb, codes, Result, Ok, Err, ⊤}
use Rattle.std.specs.Fmt.{decimal}
use Rattle.dialect.specs.declared.Dialect.{Dialect}
use Rattle.dialect.specs.Dialect.{good}
use Rattle.refusal.specs.declared.Refusal.{Refusal}
use Rattle.refusal.specs.declared.Refusal.TheVariants as refusal
use Rattle.refusal.specs.Refusal.{number_of, when_of, first_of}
use Rattle.listing.specs.Listing.{list_refusal, listing}
use Rattle.dumping.specs.declared.Failure.{Failure}
use Rattle.dumping.specs.declared.Failure.TheVariants.{Input, Output}

-- 20, or 21 above 65,536 bytes: the dump has room for any listing
unfoldable pub dump_refusal : Dialect → ℕ → Result ⊤ Refusal
dump_refusal d n = first_of (when_of (not (good d)) refusal.Dialect) (when_of (ltb 65_536 n) refusal.TooLong)

-- the line of a refusal
abbrev pub refused_line : Refusal → List ℕ
refused_line r = codes "refused " ++ decimal (number_of r) ++ codes "\n"

-- a text, or the line of its refusal
unfoldable pub said : Result ⊤ Refusal → List ℕ → List ℕ
said (Ok _) text = text
said (Err r) text = refused_line r

-- an image's listing where there is so much room for it, or the line of its refusal
unfoldable pub printed_over : Dialect → List ℕ → ℕ → List ℕ
printed_over d s room = said (list_refusal d (length s) room) (listing d s)

unfoldable pub dumped : Dialect → List ℕ → List ℕ
dumped d s = said (dump_refusal d (length s)) (listing d s)

-- the journal could not be read to its end
abbrev pub IsUnread : Failure → Type 0
IsUnread (Input e) = ⊤
IsUnread (Output e) = ⊥
