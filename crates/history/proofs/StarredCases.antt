-- The table of all starred cases holds: antt computes each row. Assumes nothing.
use mathlib.Core.Path.{refl}
use Rattle.bitbuffer.specs.Bits.{value_bits, part}
use Rattle.fillbits.specs.Fill.{fill_bits, from_last_set}
use Rattle.tdma_time.specs.Time.{usable, first_of, frames_on, usable_of}
use Rattle.uplink.specs.Search.{runs, one_past, earliest, run_at, found}
use Rattle.uplink.specs.UplinkEntry.{entry_at, store, with_halves, reserve}
use Rattle.uplink.specs.Request.{candidates, earliest_run, settle, verdict, capacity, halves_of, next_marker, marker_of, markers_after, reply_to}
use Rattle.uplink.specs.Request.{table_after, counters_after, given, answer}
use Rattle.mac_pdus.specs.Headers.{address_type, header_length, opt_bits, address_bits, fixed_bits, elements_bits, opt_chan_alloc_bits, resource_bits, frag_bits}
use Rattle.mac_pdus.specs.Headers.{end_bits, header_bits}
use Rattle.mac_pdus.specs.Legal.{address_on_air, on_air}
use Rattle.mac_reader.specs.PduList.{header, body, pdu_bits}
use Rattle.bs_frag.specs.NextPdu.{fill_flag, header_of, header_size, begin_with, begin, continue, next}
use Rattle.dl_send.specs.Carried.{unfilled, sdu_in, over}
use Rattle.history.specs.StarredCases.{Holds, request_shown, two_markers, pdus_shown, shown_of, starred_cases}

pub all-starred-cases : Holds starred_cases
unfolding starred_cases request_shown two_markers usable first_of frames_on usable_of runs one_past earliest run_at found entry_at store with_halves reserve
    candidates earliest_run settle verdict capacity halves_of next_marker marker_of markers_after reply_to table_after counters_after given answer
    pdus_shown shown_of next begin begin_with continue header_size header_of on_air address_on_air header_length address_type fill_flag
    fill_bits from_last_set unfilled sdu_in over body part value_bits opt_bits address_bits fixed_bits elements_bits opt_chan_alloc_bits resource_bits
    frag_bits end_bits header_bits header pdu_bits
all-starred-cases = refl
