-- What the listings are computed with. Nothing is said here, and nothing proved.
use Rattle.std.specs.Prelude.{Bool}
use Rattle.octets.specs.FirstPlace.{first_place}
use Rattle.octets.specs.Number.{number, octets}
use Rattle.octets.specs.Run.{run, laid}
use Rattle.ring.specs.Check.{check, rule4}
use Rattle.ring.specs.Ring.{remainder, newer}
use Rattle.header.specs.Codes.{code_of}
use Rattle.header.specs.Head.{header, head_of, is_fixed}
use Rattle.header.specs.Layout.{layout, tabulate, octet_of}
use Rattle.groups.specs.Groups.{each_group, groups_within, kept_at, kept_list}
use Rattle.signal.specs.Alive.{body_of, is_body}
use Rattle.fault.specs.Bits.{none_above}
use Rattle.fault.specs.Places.{errors_from}
use Rattle.fault.specs.Reading.{is_section}
use Rattle.fault.specs.Section.{are_errors}
use Rattle.fault.specs.private.Judged.{judged}
use Rattle.cut.specs.Possible.{unit, front_possible, last_possible, several_possible, possible}
use Rattle.map.specs.Map.{bit, holds_all, marked, lowest}
use Rattle.state.specs.Limits.{last_within, message_within, sender_within, new_among, addresses_within, senders_within, settings_of, valid}
use Rattle.state.specs.State.{first_where}
use Rattle.rules.specs.calls.Admit.{rejoins, same_cut, sender_rows, map_after, kept_after, fills, dropped_by, sender_after, held_after, admitted}
use Rattle.rules.specs.calls.Alive.{alive_head_within, alive_within, fault_within, alive_rows, heard_by, alive_answer}
use Rattle.rules.specs.calls.Clock.{aged, aged_senders, map_where, ticked, not_ticked, clock_answer}
use Rattle.rules.specs.calls.First.{checked}
use Rattle.rules.specs.calls.Message.{head_within, message_rows, storage_after, with_sender, taken, refused, message_answer, message_storage}
use Rattle.rules.specs.calls.Multicast.{entry_place, each_entry, tables_within, one_piece, cast_rows, cast_outcome, kept_by, multicast_answer, multicast_tables}
use Rattle.rules.specs.calls.Part.{stored_part}
use Rattle.rules.specs.calls.Question.{question_answer}
use Rattle.rules.specs.calls.Setup.{setup_within, new_senders, setup_state, setup_answer}
use Rattle.rules.specs.pasts.Past.{step, said}
use Rattle.rules.specs.pasts.Listings.{same, holds, told, met, all, Name, listings}

-- All that is computed with stands in this line, but for `ones`: who unfolds `kept` unfolds it.
unfoldable pub kept : Name → Bool
unfolding
    same holds told met all listings step said
    number octets run laid check rule4 remainder newer code_of header head_of is_fixed layout tabulate octet_of body_of is_body
    unit front_possible last_possible several_possible possible bit holds_all marked lowest
    last_within message_within sender_within new_among addresses_within senders_within settings_of valid first_where
    setup_within new_senders setup_state setup_answer first_place each_group groups_within kept_at kept_list
    checked head_within message_rows message_answer taken refused with_sender message_storage storage_after stored_part
    sender_rows admitted rejoins same_cut map_after kept_after fills dropped_by sender_after held_after
    alive_head_within alive_within fault_within is_section judged none_above are_errors errors_from alive_rows heard_by alive_answer
    clock_answer ticked not_ticked aged_senders aged map_where question_answer
    entry_place each_entry tables_within one_piece cast_rows cast_outcome kept_by multicast_answer multicast_tables
kept x = all (listings x)
