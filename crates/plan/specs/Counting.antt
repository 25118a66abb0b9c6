-- The section steps of a decimation, counted by its own definition. `cascade` is over any kind of number; of this kind a
-- section's output is its last output plus one. So from zeros, cell 2i + 1 of a block ends as how often section i of
-- that stage has stepped. Definitions only.
use Rattle.std.specs.Prelude.{[], ◌∷◌, ℕ, ◌+◌, ◌*◌, get_or}
use Rattle.halfband.specs.Halfband.{Kind, Sections, View, cascade, stages_of}
use Rattle.plan.specs.Sums.{sum}

abbrev pub counting : Kind ℕ
counting = record { none = 0; load = λ cell. cell; section = λ c x y input. y + 1; mix = λ p q. 0 }

-- stage j has counts j sections; no coefficient is looked at
abbrev pub sections_by : (ℕ → ℕ) → ℕ → Sections ℕ
sections_by counts j = record { coefs = []; count = counts j }

abbrev pub zeros : View ℕ
zeros = record { rows = λ _. 0; cells = λ _ _. 0 }

-- the steps of section i of stage b, where s stages end in f frames
abbrev pub section_steps : (ℕ → ℕ) → ℕ → ℕ → ℕ → ℕ → ℕ
section_steps counts s f b i = (cascade counting (sections_by counts) s f zeros).cells b (2 * i + 1)

-- of every section of every stage
unfoldable pub cascade_steps : (ℕ → ℕ) → ℕ → ℕ → ℕ
cascade_steps counts s f = sum s (λ b. sum (counts b) (section_steps counts s f b))

-- how many sections design j has
abbrev pub count_at : ℕ → ℕ → ℕ → ℕ → ℕ
count_at count0 count1 count2 j = get_or (count0 ∷ count1 ∷ count2 ∷ []) j 0

-- one lane's, over a block's frames
unfoldable pub lane_steps : ℕ → ℕ → ℕ → ℕ → ℕ → ℕ
lane_steps factor frames count0 count1 count2 = cascade_steps (count_at count0 count1 count2) (stages_of factor) frames
