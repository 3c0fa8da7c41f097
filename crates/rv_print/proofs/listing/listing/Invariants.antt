use Rattle.std.proofs.Common.{◌≡◌, ◌++◌, drop}
use Rattle.std.specs.Prelude.{string_bytes}
use Rattle.rv_print.specs.Listing.{listing_of}
use Rattle.rv_print.proofs.listing.listing.Given as goal

abbrev pub invariant-loop-word : goal.invariant-loop-word
invariant-loop-word l = string_bytes l.text ++ listing_of (drop l.word-index l.words) ≡ listing_of l.words
