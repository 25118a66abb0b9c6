-- What an accepted file is, and what stands before the record for which a file is turned away. Definitions only.
use Rattle.std.specs.Prelude.{◌≡◌, List, ℕ, ◌*◌, ◌<◌, ◌≤◌, length, take}
use Rattle.files.specs.declared.fields.Entry.{Entry}
use Rattle.files.specs.Format.{limit, record_bytes, number_at, records_of, AllValid}
use Rattle.files.specs.Reader.{empty_slots, no_patch, accepted_as, reading_of, held_of}
use Rattle.files.specs.Latest.{Latest}

-- it is within the limit and a list of valid records, is read as them, and leaves each slot with its latest
pub record Accepted (bytes : List ℕ) : Type 0 where
  pub entries : List Entry
  pub valid : AllValid entries
  pub same : bytes ≡ records_of entries
  pub few : length bytes ≤ limit
  pub reads : reading_of bytes ≡ accepted_as (held_of empty_slots entries)
  pub latest0 : Latest 0 entries (held_of empty_slots entries).held0
  pub latest1 : Latest 1 entries (held_of empty_slots entries).held1

-- it holds no patch; the bytes before `at` are valid records; above the limit the number is 9, at 0; within it the record at `at` gives
-- the number
pub record Refused (bytes : List ℕ) : Type 0 where
  pub entries : List Entry
  pub valid : AllValid entries
  pub before : take (reading_of bytes).at bytes ≡ records_of entries
  pub place : (reading_of bytes).at ≡ record_bytes * length entries
  pub patch : (reading_of bytes).patch ≡ no_patch
  pub above : limit < length bytes → ((reading_of bytes).number ≡ 9) × ((reading_of bytes).at ≡ 0)
  pub within : length bytes ≤ limit → (reading_of bytes).at < length bytes
  pub number : length bytes ≤ limit → (reading_of bytes).number ≡ number_at bytes (reading_of bytes).at
