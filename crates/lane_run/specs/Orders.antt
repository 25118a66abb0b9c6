-- Lanes' calls beside the block run with the same arguments. Request E5: "It touches no other lane's cells; made once for each active
-- lane, in any order, it is proved to leave all buffers as the run does, NaN counting as one value." Floats are compared by `≡`: one nan,
-- and otherwise one value for each pattern. Definitions only.
use Rattle.std.specs.Prelude.{ℕ, ◌%◌, ◌<◌, ◌≡◌, List, [], ◌∷◌, get_or}
use Rattle.std.specs.Float.{nan}
use Rattle.grid.specs.Lanes.{Once}
use Rattle.limits.specs.declared.answers.Answer.{Answer}
use Rattle.share.specs.Share.{Buffers, columns_of}
use Rattle.block.specs.Call.{Call, Meets, called, write_lengths, lanes_of}
use Rattle.cuts.specs.Cuts.{Which, buffer}
use Rattle.lane_run.specs.LaneCall.{LaneMeets}

-- "It touches no other lane's cells": cell i of each of the six buffers is that of lane i % lanes
unfoldable pub OthersKept : Type 0
OthersKept =
    (c : Call) (lane : ℕ) → LaneMeets c lane
    → (b : Which) (i : ℕ) → (i % lanes_of c ≡ lane → ⊥) → get_or (buffer b c.after) i nan ≡ get_or (buffer b c.before) i nan

-- the arguments of run c, with the buffers w before and w' after and the answer a
abbrev pub with_buffers : Call → Buffers → Buffers → Answer → Call
with_buffers c w w' a = called c.settings c.range c.active c.coefs c.numbers c.lent w w' a

-- calls with the run's arguments for the lanes of a list, one after another, each in the buffers that the one before left
pub data LaneCalls (c : Call) : List ℕ → Buffers → Buffers → Type 0 where
  no_lane : {w : Buffers} → LaneCalls c [] w w
  lane_then : {lane : ℕ} {lanes : List ℕ} {w w' w'' : Buffers} {a : Answer}
      → LaneMeets (with_buffers c w w' a) lane → LaneCalls c lanes w' w'' → LaneCalls c (lane ∷ lanes) w w''

-- "made once for each active lane, in any order", they leave all six buffers as the run does, accepted or refused
unfoldable pub AnyOrder : Type 0
AnyOrder = (c : Call) (lanes : List ℕ) (w : Buffers) → Meets c → Once 0 c.active lanes → LaneCalls c lanes c.before w → w ≡ c.after

-- an active lane's call in buffers of the run's lengths answers what the run does
unfoldable pub AnswersAsRun : Type 0
AnswersAsRun =
    (c : Call) (lane : ℕ) (w w' : Buffers) (a : Answer) → Meets c → lane < c.active → write_lengths w ≡ write_lengths c.before
    → LaneMeets (with_buffers c w w' a) lane → a ≡ c.answer

-- and ends for its lane as the run does, if it starts with the same cells of that lane. Other lanes' cells are free
unfoldable pub EndsAsRun : Type 0
EndsAsRun =
    (c : Call) (lane : ℕ) (w w' : Buffers) (a : Answer) → Meets c → lane < c.active → write_lengths w ≡ write_lengths c.before
    → columns_of (lanes_of c) w lane ≡ columns_of (lanes_of c) c.before lane
    → LaneMeets (with_buffers c w w' a) lane → columns_of (lanes_of c) w' lane ≡ columns_of (lanes_of c) c.after lane
