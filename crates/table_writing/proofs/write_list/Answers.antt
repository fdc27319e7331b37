-- Too many, no room, or all of it.
use Rattle.std.proofs.Common.{not, refl, sym, ap, lt-ltb, le-ltb}
use Rattle.lent_bytes.proofs.Buffers.{written_none, written_all}
use Rattle.table_files.specs.Files.{file_bytes}
use Rattle.table_writing.specs.Writing.{write_list}
use Rattle.table_writing.proofs.Writes.{length_file}
use Rattle.table_writing.proofs.write_list.Goals as goal

pub returns-then-masks-gt-MAX_SETS : goal.returns-then-masks-gt-MAX_SETS
unfolding write_list
returns-then-masks-gt-MAX_SETS c = rw (lt-ltb 128 _ c.if-masks-gt-MAX_SETS.true) (record { answer = refl; buffer = refl })

pub returns-then-not-fits : goal.returns-then-not-fits
unfolding write_list
returns-then-not-fits c = let a = c.args in rw (le-ltb 128 _ c.if-masks-gt-MAX_SETS.false) (written_none (file_bytes a.kind a.n a.masks.now) a.start a.buf.now _ (sym (length_file a.kind a.n a.masks.now)) _ c.fits.ensures (ap not c.if-not-fits.true))

pub returns : goal.returns
unfolding write_list
returns c = let a = c.args in rw (le-ltb 128 _ c.if-masks-gt-MAX_SETS.false) (written_all (file_bytes a.kind a.n a.masks.now) a.start a.buf.now _ (sym (length_file a.kind a.n a.masks.now)) _ c.fits.ensures (ap not c.if-not-fits.false) _ c.put_list.ensures)
