-- All that the calls compute with, under one name: an `unfolding` line that names it lets a sample be computed.
use Rattle.std.specs.Int.Count.{ones_in}
use Rattle.drive_sets.specs.Lists.{range, filter, all, any, smaller, smallest}
use Rattle.drive_sets.specs.Masks.{has, single, full, union, common, minus, only_one, meets, subset, size, lowest_alone, drives}
use Rattle.survivor_tables.specs.Hitting.{critical, for_each, search, minimals}
use Rattle.survivor_tables.specs.Order.{by_mask, by_lowest, by_size, insert, sort, drop_repeats, holds_another, normal}
use Rattle.records.specs.Fields.{from_bytes, to_bytes}
use Rattle.drive_sets.specs.Lent.{written, written_at, fitting}
use Rattle.records.specs.Marks.{ascii, mark_text, mark, number_width, body_width, kind_of, is_kind, is_due, head_of}
use Rattle.survivor_tables.specs.Tables.{is_frame, is_set, is_empty, cores, chosen, within_core_limit, normal_table}
use Rattle.drive_sets.specs.Counts.{is_drive, is_round}
use Rattle.drive_states.specs.State.{in_core, number_in, number_of, is_decided, broken}
use Rattle.drive_states.specs.Messages.{mask_in, entries_in, entry_bytes, content_bytes, length_in, kind_in, bytes_in, sender_of, round_of, mask_of, pattern_of, entries_from, is_known, content_of, message_of, wrong_mask, checked, read_message}
use Rattle.agreement.specs.Calls.{initial, opening, content_by, outgoing, sending, outside_core, any_differs, stored, lower, announcing, accept, admitting, receiving, heard_at_close, stable, decision_on, stable_decision, decide, decision_after, halts, next, closing}

unfoldable pub evaluated : Unit {0}
unfolding ones_in range filter all any smaller smallest has single full union common minus only_one meets subset size lowest_alone drives critical for_each search minimals by_mask by_lowest by_size insert sort drop_repeats holds_another normal from_bytes to_bytes written written_at ascii mark_text mark number_width body_width kind_of is_kind is_due head_of fitting is_frame is_set is_empty cores chosen within_core_limit normal_table is_drive is_round in_core number_in number_of is_decided broken mask_in entries_in entry_bytes content_bytes length_in kind_in bytes_in sender_of round_of mask_of pattern_of entries_from is_known content_of message_of wrong_mask checked read_message initial opening content_by outgoing sending outside_core any_differs stored lower announcing accept admitting receiving heard_at_close stable decision_on stable_decision decide decision_after halts next closing
evaluated = tt
