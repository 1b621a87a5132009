-- Document 01's sizes, each under its sentence. The constants of src/ have the same values under the same names. Assumes nothing.
use Rattle.std.specs.Prelude.{ℕ, ◌*◌, ◌^◌}

-- "Timeslot t 1–4"
abbrev pub timeslots : ℕ
timeslots = 4

-- "frame f 1–18"
abbrev pub frames : ℕ
frames = 18

-- "Address kind 0–2 and number below 2^24": how many numbers an address may have
abbrev pub address_numbers : ℕ
address_numbers = 2 ^ 24

-- "a lent run of 64 records, sixteen to a timeslot": the places of a timeslot, and those of the queue
abbrev pub per_timeslot : ℕ
per_timeslot = 16

abbrev pub queue_places : ℕ
queue_places = timeslots * per_timeslot

-- no place: the number that stands for it where one of a timeslot's places is named
abbrev pub no_place : ℕ
no_place = per_timeslot

-- "The SDU store is 64 cells of 256 octets, one to a place": the octets of a cell, of a timeslot's cells, and of the store
abbrev pub cell_octets : ℕ
cell_octets = 256

abbrev pub timeslot_octets : ℕ
timeslot_octets = cell_octets * per_timeslot

abbrev pub store_octets : ℕ
store_octets = timeslots * timeslot_octets

-- "SDU at most 2,048 bits": as many as a cell has
abbrev pub sdu_bits : ℕ
sdu_bits = 8 * cell_octets

-- "268 bits in 34 octets"
abbrev pub block_width : ℕ
block_width = 268

abbrev pub block_octets : ℕ
block_octets = 34

-- "17 frames are searched"
abbrev pub frames_searched : ℕ
frames_searched = 17

-- "Delay 0–13": "At most 13 before it?"
abbrev pub latest_delay : ℕ
latest_delay = 13
