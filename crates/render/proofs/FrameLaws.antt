-- The laws of rendered frames, in steps as the code takes them, and of runs of them in the work rows. Assumes nothing.
use mathlib.Core.Path.{◌≡◌, refl, sym, ◌∙◌, ap, subst, subst₂, fun_ext}
use mathlib.Core.List.{List}
use Prim.Native.Nat.{ℕ, ◌+◌, ◌*◌, ◌/◌, ◌%◌, ◌<◌}
use native.Mathlib.Numerals.{add-one}
use native.Mathlib.Nat.{zero-mul, suc-mul, add-mul, mul-add-div_right, mul-add-mod_self_right, div-eq_of_lt, mod-eq_of_lt, add-zero}
use native.Mathlib.Omega.{arith}
use lib.ListN.{length, get_or, set, length-set}
use lib.Ieee.{Float, nan}
use Rattle.floats.specs.Steps.{◌>>=◌}
use Rattle.grid.specs.Cells.{column}
use Rattle.grid.proofs.FunctionLaws.{span_none, span_more, span_join}
use Rattle.grid.proofs.CellLaws.{col_set, col_set_other}
use Rattle.grid.proofs.EachLaws.{each_one, one_lane, one_others}
use Rattle.limits.specs.Lengths.{spans_of}
use Rattle.halfband.specs.declared.design.Designs.{Designs}
use Rattle.voice.specs.PhaseRun.{fm_scale}
use Rattle.voice.specs.SumRun.{summed_of}
use Rattle.controls.specs.Controls.{Controls, lent_of, control_at}
use Rattle.shaper.specs.declared.settings.Settings.{Settings}
use Rattle.shaper.specs.Lane.{control0_at, control1_at, reads_at, shaped_at}
use Rattle.render.specs.declared.state.BlockSettings.{BlockSettings}
use Rattle.render.specs.declared.state.Voice.{Voice}
use Rattle.render.specs.declared.state.Stepped.{Stepped}
use Rattle.render.specs.declared.state.HostFrame.{HostFrame}
use Rattle.render.specs.Lane.{Lent, Inputs, inputs_in, step_at, voice_after, sample_at}
use Rattle.render.specs.Frames.{frame_of, drive_at, host_at, frame_at, Powered, Frames, Ran}
use Rattle.render.proofs.InputLaws.{inputs_controls, inputs_inner, inputs_curve, inputs_cycle, inputs_words, inputs_steps}
use Rattle.render.proofs.VoiceLaws.{voice_none, voice_more, voice_add, sample_is, sample_add}

-- the host frame of a rendered frame, and its number within
pub host_of : (host factor sub : ℕ) → sub < factor → (host * factor + sub) / factor ≡ host
host_of host factor sub h = mul-add-div_right (omega arith) host sub ∙ rw (div-eq_of_lt h) (add-zero host)

pub sub_of : (host factor sub : ℕ) → sub < factor → (host * factor + sub) % factor ≡ sub
sub_of host factor sub h = mul-add-mod_self_right host factor sub ∙ mod-eq_of_lt h

-- rendered frame `sub` of host frame `host`: both of its calls hear `last` as it enters
pub step_frame : (b : BlockSettings) (i : Inputs) (host sub : ℕ) (v : Voice) → sub < b.shaper.factor
    → step_at b i (host * b.shaper.factor + sub) v
    ≡ frame_at b.shaper (fm_scale b.rate b.shaper.factor)
    (host_at b.shaper i.controls.base0 i.controls.base1 i.controls.mod0 i.controls.mod1 i.inner host)
    i.controls.source0 i.controls.source1 i.curve i.cycle i.words i.steps host sub v
unfolding step_at reads_at shaped_at control0_at control1_at control_at frame_at frame_of summed_of host_at drive_at ◌>>=◌
step_frame b i host sub v h = rw (host_of host b.shaper.factor sub h, sub_of host b.shaper.factor sub h)

-- the same, by the inputs' own names
step_by : (b : BlockSettings) (i : Inputs) (host sub : ℕ) (v : Voice) (c : Controls) (inner curve cycle : List Float) (words steps : List ℕ) → sub < b.shaper.factor
    → i.controls ≡ c → i.inner ≡ inner → i.curve ≡ curve → i.cycle ≡ cycle → i.words ≡ words → i.steps ≡ steps
    → step_at b i (host * b.shaper.factor + sub) v
    ≡ frame_at b.shaper (fm_scale b.rate b.shaper.factor) (host_at b.shaper c.base0 c.base1 c.mod0 c.mod1 inner host)
    c.source0 c.source1 curve cycle words steps host sub v
step_by b i host sub v c inner curve cycle words steps h ec ei eu ey ew es =
    rw (← ec, ← ei, ← eu, ← ey, ← ew, ← es) (step_frame b i host sub v h)

module _ {b : BlockSettings} {i : Inputs} {lane q row : ℕ} {v : Voice} {work : List Float} where
  -- no frame yet
  pub frames_none : Frames b i lane q row 0 v v work work
  frames_none =
      record {
        size = refl;
        voice = sym (voice_none b i q v);
        rows = each_one (sym (span_none row _ _)) (λ m hm ne. refl);
      }

  -- one frame more
  pub frames_more : {k : ℕ} {v' : Voice} {work' : List Float} (r : Stepped) → lane < b.shaper.lanes
      → (row + k) * b.shaper.lanes + lane < length work' → Frames b i lane q row k v v' work work' → r ≡ step_at b i (q + k) v'
      → Frames b i lane q row (k + 1) v r.voice work (set work' ((row + k) * b.shaper.lanes + lane) r.sample)
  frames_more {k} {v'} {work'} r hl at was did =
      let n = b.shaper.lanes in
      let stepped : r ≡ step_at b i (q + k) (voice_after b i q v k) = rw was.voice at did in
      let sample : r.sample ≡ sample_at b i q v k = ap (λ (o : Stepped). o.sample) stepped ∙ sym (sample_is b i q v k) in
      record {
        size = rw length-set was.size;
        voice = ap (λ (o : Stepped). o.voice) stepped ∙ sym (voice_more b i q v k);
        rows =
            each_one
            (col_set nan n lane work' (row + k) r.sample hl at ∙ rw (one_lane was.rows hl, sample) (span_more row k _ _))
            (λ m hm ne. col_set_other nan n m work' lane (row + k) r.sample hm hl ne ∙ one_others was.rows m hm ne);
      }

  -- a frames and then c more
  pub frames_join : {a c : ℕ} {v' v'' : Voice} {work' work'' : List Float} → lane < b.shaper.lanes
      → Frames b i lane q row a v v' work work' → Frames b i lane (q + a) (row + a) c v' v'' work' work''
      → Frames b i lane q row (a + c) v v'' work work''
  frames_join {a} {c} {v'} {v''} {work'} {work''} hl was did =
      let n = b.shaper.lanes in
      let later : sample_at b i (q + a) v' ≡ (λ k. sample_at b i q v (a + k)) =
      rw was.voice (fun_ext (λ k. sym (sample_add b i q v a k))) in
      record {
        size = did.size ∙ was.size;
        voice = did.voice ∙ rw was.voice (sym (voice_add b i q v a c));
        rows =
            each_one (one_lane did.rows hl ∙ rw (later, one_lane was.rows hl) (span_join row a c _ _))
            (λ m hm ne. one_others did.rows m hm ne ∙ one_others was.rows m hm ne);
      }

-- ---- from what the code's calls say

-- what `load_host` and `frame_at` return
abbrev pub held_of : Settings → Lent → ℕ → ℕ → HostFrame
held_of s l lane host =
    host_at s (get_or l.controls.base0 lane nan) (get_or l.controls.base1 lane nan)
    (lent_of s.lanes lane s.frames l.controls.mod0) (lent_of s.lanes lane s.frames l.controls.mod1)
    (column nan s.lanes lane (spans_of s.frames) l.inner) host

abbrev pub stepped_of : Settings → Float → Lent → ℕ → ℕ → HostFrame → ℕ → Voice → Stepped
stepped_of s scale l lane host h sub v =
    frame_at s scale h (lent_of s.lanes lane s.frames l.controls.source0) (lent_of s.lanes lane s.frames l.controls.source1) l.curve l.cycle
    (column 0 s.lanes lane (s.frames * s.factor) l.words) (column 0 s.lanes lane (s.frames * s.factor) l.steps) host sub v

pub powered : (s : Settings) (l : Lent) (lane host : ℕ) (h : HostFrame) → h ≡ held_of s l lane host → Powered s h
unfolding host_at drive_at
powered s l lane host h e = rw e (record { power0 = refl; power1 = refl })

abbrev block_of : Settings → ℕ → Designs → BlockSettings
block_of s rate designs = record { shaper = s; rate = rate; designs = designs }

module _ (s : Settings) (scale : Float) (l : Lent) (lane host row : ℕ) where
  stepped : (rate : ℕ) (designs : Designs) (h : HostFrame) (sub : ℕ) (v : Voice) (r : Stepped) → sub < s.factor
      → scale ≡ fm_scale rate s.factor → h ≡ held_of s l lane host → r ≡ stepped_of s scale l lane host h sub v
      → r ≡ step_at (block_of s rate designs) (inputs_in s l lane) (host * s.factor + sub) v
  stepped rate designs h sub v r less reach held did =
      rw (did, held, reach)
      (sym
      (step_by (block_of s rate designs) (inputs_in s l lane) host sub v _ _ _ _ _ _ less (inputs_controls s l lane) (inputs_inner s l lane)
      (inputs_curve s l lane) (inputs_cycle s l lane) (inputs_words s l lane) (inputs_steps s l lane)))

  pub ran_none : (v : Voice) (work : List Float) → Ran s scale (inputs_in s l lane) lane (host * s.factor) row 0 v v work work
  ran_none v work rate designs reach = frames_none

  pub ran_more : {k : ℕ} {h : HostFrame} {v v' : Voice} {work work' : List Float} (r : Stepped) → lane < s.lanes → k < s.factor
      → (row + k) * s.lanes + lane < length work' → h ≡ held_of s l lane host → r ≡ stepped_of s scale l lane host h k v'
      → Ran s scale (inputs_in s l lane) lane (host * s.factor) row k v v' work work'
      → Ran s scale (inputs_in s l lane) lane (host * s.factor) row (k + 1) v r.voice work (set work' ((row + k) * s.lanes + lane) r.sample)
  ran_more {k} {h} {v' = v'} r hl less at held did was rate designs reach =
      frames_more r hl at (was rate designs reach) (stepped rate designs h k v' r less reach held did)

  -- all frames of a host frame
  pub ran_done : (k : ℕ) (v v' : Voice) (work work' : List Float) → k ≡ s.factor
      → Ran s scale (inputs_in s l lane) lane (host * s.factor) row k v v' work work'
      → Ran s scale (inputs_in s l lane) lane (host * s.factor) row s.factor v v' work work'
  ran_done k v v' work work' e was =
      subst (λ (j : ℕ). Ran s scale (inputs_in s l lane) lane (host * s.factor) row j v v' work work') e was

-- ---- host frame after host frame

module _ (s : Settings) (scale : Float) (i : Inputs) (lane first : ℕ) where
  pub hosts_none : (v : Voice) (work : List Float) → Ran s scale i lane (first * s.factor) 0 (0 * s.factor) v v work work
  hosts_none v work rate designs reach = rw (zero-mul s.factor) frames_none

  pub hosts_more : (k : ℕ) (v v' v'' : Voice) (work work' work'' : List Float) → lane < s.lanes
      → Ran s scale i lane (first * s.factor) 0 (k * s.factor) v v' work work'
      → Ran s scale i lane ((first + k) * s.factor) (k * s.factor) s.factor v' v'' work' work''
      → Ran s scale i lane (first * s.factor) 0 ((k + 1) * s.factor) v v'' work work''
  hosts_more k v v' v'' work work' work'' hl was did rate designs reach =
      let f = s.factor in
      let next : (first + k) * f ≡ first * f + k * f = add-mul first k f in
      let rows : k * f ≡ 0 + k * f = omega arith in
      let more : k * f + f ≡ (k + 1) * f = sym (rw (← add-one k) at (suc-mul k f)) in
      subst (λ (j : ℕ). Frames (block_of s rate designs) i lane (first * f) 0 j v v'' work work'') more
      (frames_join hl (was rate designs reach)
      (subst₂ (λ (q row : ℕ). Frames (block_of s rate designs) i lane q row f v' v'' work' work'') next rows (did rate designs reach)))

  pub hosts_done : (k count : ℕ) (v v' : Voice) (work work' : List Float) → k ≡ count
      → Ran s scale i lane (first * s.factor) 0 (k * s.factor) v v' work work'
      → Ran s scale i lane (first * s.factor) 0 (count * s.factor) v v' work work'
  hosts_done k count v v' work work' e was =
      subst (λ (j : ℕ). Ran s scale i lane (first * s.factor) 0 (j * s.factor) v v' work work') e was
