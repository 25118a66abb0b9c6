-- A block's reads and steps are its frames times those of one host frame. Assumes nothing.
use mathlib.Core.Path.{◌≡◌, ◌∙◌}
use Prim.Native.Nat.{ℕ, ◌*◌, ◌^◌}
use native.Mathlib.Nat.{mul_assoc, mul_comm, one-mul}
use Rattle.halfband.specs.Halfband.{stages_of}
use Rattle.plan.specs.declared.needs.BlockNumbers.{BlockNumbers}
use Rattle.plan.specs.Counting.{cascade_steps, count_at, lane_steps}
use Rattle.plan.specs.Plan.{one_frame, most_reads, steps_of}
use Rattle.plan.proofs.SumLaws.{sum_same, sum_times}
use Rattle.plan.proofs.CountLaws.{steps_are}

-- a × (f × x) is f × (a × x)
swap : (a f x : ℕ) → a * (f * x) ≡ f * (a * x)
swap a f x = rw (← mul_assoc a f x, mul_comm a f, mul_assoc f a x)

pub reads_of_frames : (b : BlockNumbers) → most_reads b ≡ b.frames * most_reads (one_frame b)
unfolding most_reads
reads_of_frames b = rw (one-mul, swap b.active b.frames b.factor) (swap _ b.frames (b.active * b.factor))

cascade_frames : (counts : ℕ → ℕ) (s f : ℕ) → cascade_steps counts s f ≡ f * cascade_steps counts s 1
cascade_frames counts s f =
    steps_are counts f s
    ∙ sum_same s _ (λ b. f * (counts b * (1 * 2 ^ b))) (λ b h. rw one-mul (swap (counts b) f (2 ^ b)))
    ∙ sum_times s f (λ b. counts b * (1 * 2 ^ b)) ∙ rw (steps_are counts 1 s)

pub steps_of_frames : (b : BlockNumbers) → steps_of b ≡ b.frames * steps_of (one_frame b)
unfolding steps_of lane_steps
steps_of_frames b =
    rw (cascade_frames (count_at b.count0 b.count1 b.count2) (stages_of b.factor) b.frames) (swap b.active b.frames _)
