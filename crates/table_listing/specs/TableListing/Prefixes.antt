-- What stands behind the first 4096 bytes of the table program's input changes nothing.
use Rattle.std.specs.Prelude.{◌≡◌, List, ℕ, take}
use Rattle.std.proofs.Common.{ap}
use Rattle.drive_sets.specs.Limits.{max_input}
use Rattle.survivor_tables.specs.declared.frames.MaskKind.TheVariants.{SurvivorSet}
use Rattle.table_files.specs.Files.{accepted, read_whole}
use Rattle.table_files.specs.Files.Prefixes.{all_prefix}
use Rattle.table_listing.specs.TableListing.{listing_of, table_program}

pub table_program_prefix : (s : List ℕ) → table_program (take max_input s) ≡ table_program s
unfolding table_program read_whole
table_program_prefix s = ap listing_of (all_prefix SurvivorSet accepted s)
