-- Document 01's table of refusals ("Turned down"), line by line: a test for each cause, over whole numbers. A call lists the lines of the
-- arguments that it has, in the table's order, and its number is the first that holds. Lines 7 and 8 are in Lengths.antt. Definitions only.
use Rattle.std.specs.Prelude.{Bool, cond, not, ◌||◌, List, [], ◌∷◌, ℕ, ◌+◌, ◌*◌, ltb, eqb}

-- the number of the first test that holds, and 0 where none does
unfoldable pub first_of : List (Bool × ℕ) → ℕ
first_of [] = 0
first_of (line ∷ lines) = cond line.0 line.1 (first_of lines)

-- 1: a mode above 69
abbrev pub bad_mode : ℕ → Bool
bad_mode mode = ltb 69 mode

-- 1: of either slot
abbrev pub bad_modes : ℕ → ℕ → Bool
bad_modes mode0 mode1 = bad_mode mode0 || bad_mode mode1

-- 2: factor not 1, 2, 4 or 8
abbrev pub bad_factor : ℕ → Bool
bad_factor factor = not (eqb factor 1 || eqb factor 2 || eqb factor 4 || eqb factor 8)

-- 3: lane count not 1..64, or active lanes above it
abbrev pub bad_lanes : ℕ → ℕ → Bool
bad_lanes n active = ltb n 1 || ltb 64 n || ltb n active

-- 3: or a single lane not active
abbrev pub bad_lane : ℕ → ℕ → ℕ → Bool
bad_lane n active lane = bad_lanes n active || not (ltb lane active)

-- 4: block above 4,096 host frames
abbrev pub bad_frames : ℕ → Bool
bad_frames frames = ltb 4096 frames

-- 4: or a range past the block's end
abbrev pub bad_range : ℕ → ℕ → ℕ → Bool
bad_range frames first count = bad_frames frames || ltb frames (first + count)

-- 4: or a single rendered frame outside its range, counted from the range's start
abbrev pub bad_frame : ℕ → ℕ → ℕ → ℕ → ℕ → Bool
bad_frame factor frames first count frame = bad_range frames first count || not (ltb frame (count * factor))

-- 4: or one of those that `PhaseRun::stretch` is asked for; the first must lie in the range even where none is asked for
abbrev pub bad_asked : ℕ → ℕ → ℕ → ℕ → ℕ → ℕ → Bool
bad_asked factor frames first count from asked = bad_frame factor frames first count from || ltb (count * factor) (from + asked)

-- 4: or a picture above 4,096 points
abbrev pub bad_points : ℕ → Bool
bad_points points = ltb 4096 points

-- 5: host rate not 8,000..192,000 whole hertz
abbrev pub bad_rate : ℕ → Bool
bad_rate rate = ltb rate 8000 || ltb 192000 rate

-- 6: a design's count not 1..12
abbrev pub bad_count : ℕ → Bool
bad_count count = ltb count 1 || ltb 12 count

-- 6: of any of the three, whether the factor uses it or not
abbrev pub bad_counts : ℕ → ℕ → ℕ → Bool
bad_counts count0 count1 count2 = bad_count count0 || bad_count count1 || bad_count count2

-- lines 1 to 6, by their tests
abbrev pub number_lines : Bool → Bool → Bool → Bool → Bool → Bool → List (Bool × ℕ)
number_lines modes factor lanes frames rate counts = (modes, 1) ∷ (factor, 2) ∷ (lanes, 3) ∷ (frames, 4) ∷ (rate, 5) ∷ (counts, 6) ∷ []
