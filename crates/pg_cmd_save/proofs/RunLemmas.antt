-- That there are the runs of the commands; and what is known of the guest of `save`, behind its last turn.
use Rattle.std.proofs.Common.{◌≡◌, ◌∙◌, ℕ, ◌+◌, ◌<◌, ◌≤◌, List, [], ◌∷◌, ◌++◌, length, map, IsSomeAnd, slice_get, sym, ap, subst, arith}
use Rattle.std.proofs.lemmas.List.Elements.{All-nil, All-cons}
use Rattle.pg_alloc.specs.Fit.{kept_cells}
use Rattle.pg_ast.specs.declared.tree.Desc.{Desc}
use Rattle.pg_mon_control.specs.Guests.{virtuals}
use Rattle.pg_mon_control.specs.Standing.{Stands}
use Rattle.pg_run_guests.proofs.ToldLemmas.{have-within}
use Rattle.pg_run_guests.specs.HaveRun.{HaveRun}
use Rattle.pg_run_guests.specs.UnderMonitor.{RanGuests, state_run}
use Rattle.pg_run_guests.specs.declared.running.Ran.{Ran}
use Rattle.pg_hw.specs.Machinery.{Machinery}
use Rattle.pg_cmd_base.specs.Images.{Fills}
use Rattle.pg_mach_ready.specs.declared.machine.Machine.{Machine}
use Rattle.pg_lang_meaning.specs.States.{State, shape_of, IsState}
use Rattle.pg_lang_meaning.specs.Steps.{bare, power_on, steps}
use Rattle.pg_monitor.specs.Monitors.{desc_of}
use Rattle.pg_monitor.specs.declared.monitor.Monitor.{Monitor}
use Rattle.pg_move.specs.Seen.{guest_of as guest_saved}
use Rattle.pg_move.specs.Texts.{room_of, saved_text, SavedGuest, IsSaved}
use Rattle.pg_move.specs.declared.saved.Saved.{Saved}
use Rattle.pg_report.specs.Spans.{span}
use Rattle.pg_run_guests.proofs.ReachedLemmas as reached
use Rattle.pg_run_guests.specs.Runs.{GuestRun, run_of, reached_by}
use Rattle.pg_run_guests.specs.Setting.{CanRun, IsImage, SetUp}
use Rattle.pg_cmd_save.proofs.GuestLemmas.{span-length, one-size, one-there, some-weaker}
use Rattle.pg_cmd_save.specs.Plans.{save_run}
use Rattle.pg_cmd_save.specs.Save.{SaveRun, guest_of, one_slice, reached as state_reached, saved_of}
use Rattle.pg_cmd_save.specs.declared.save.plan.SavePlan.{SavePlan}
use Rattle.pg_type.specs.Listed.{state_of}
use Rattle.pg_word.proofs.SparseLemmas.{length-storage_of}

-- ---- that there are such runs

pub image-runs : (m : Machine) (image : List ℕ) (grant steps : ℕ) → 2 ≤ grant → Fills m.desc.word grant image → kept_cells + grant ≤ m.desc.size → steps ≤ 1000000 →
    CanRun (run_of m (image ∷ []) one_slice steps)
image-runs m image grant steps least fills room counted =
    let whole = fills.whole in
    let is_image : IsImage m.desc.word image = record { least = omega (arith, least, whole); words = fills.words } in
    reached.can-run m (image ∷ []) one_slice steps (All-cons (IsImage m.desc.word) image [] is_image (All-nil (IsImage m.desc.word)))
    (omega (arith, room, whole)) (omega arith) (omega (arith, counted))

-- ---- what its guest reaches

pub save-reached : (j : SaveRun) → length j.image ≡ j.grant → reached_by (guest_of j) ≡ state_reached j ∷ []
unfolding bare
save-reached j whole = ap (λ n. bare j.desc j.image n j.steps ∷ []) whole

module _ (j : SaveRun) (ran : Ran) (old new : Machinery) where
  -- what is known of a guest that ran, and that is to be saved
  pub record HasRun : Type 0 where
    pub can_run : CanRun (guest_of j)
    pub have : HaveRun (guest_of j) ran new
    pub left : RanGuests (guest_of j) old new
    pub whole : length j.image ≡ j.grant

  module _ (h : HasRun) where
    -- its state has as many cells as it was granted
    reached-size : length (state_reached j).cells ≡ j.grant
    reached-size =
        let first : State = power_on j.image (length j.image) in
        let grants : span kept_cells (length first.cells) new.state.cells ∷ [] ≡ (state_reached j).cells ∷ [] =
        h.left.grants ∙ ap (map (λ (s : State). s.cells)) (save-reached j h.whole) in
        let one : span kept_cells (length first.cells) new.state.cells ≡ (state_reached j).cells = cc in
        let cells : first.cells ≡ j.image = reached.switched_on-cells j.image in
        let room = h.can_run.states.room in
        let size = h.left.size in
        ap (λ (l : List ℕ). length l) (sym one) ∙ span-length kept_cells (length first.cells) new.state.cells (omega (arith, room, size))
        ∙ ap (λ (l : List ℕ). length l) cells ∙ h.whole

    states : virtuals new.state.cells ran.monitor.guests ≡ state_reached j ∷ []
    states = h.have.states ∙ save-reached j h.whole

    pub saved-known : (m : Monitor) → m ≡ ran.monitor → 0 < length m.guests
    saved-known m is = subst (λ (x : Monitor). 0 < length x.guests) (sym is) (one-there new.state.cells ran.monitor.guests (state_reached j) states)

    pub saved-stands : (m : Monitor) → m ≡ ran.monitor → Stands (desc_of m) new.state m.guests m.current
    saved-stands m is =
        subst (λ (x : Monitor). Stands (desc_of x) new.state x.guests x.current) (sym is)
        (subst (λ (d : Desc). Stands d new.state ran.monitor.guests ran.monitor.current) (sym h.have.machine) h.have.stands)

    -- what was reserved is enough for its text
    pub saved-room : (m : Monitor) (len cap : ℕ) → m ≡ ran.monitor → len + room_of (shape_of j.desc) j.grant ≤ cap →
        IsSomeAnd (slice_get m.guests 0) (λ g. len + room_of (shape_of (desc_of m)) g.size ≤ cap)
    saved-room m len cap is fits =
        let sizes : IsSomeAnd (slice_get ran.monitor.guests 0) (λ g. g.size ≡ length (state_reached j).cells) =
        one-size new.state.cells ran.monitor.guests (state_reached j) states (have-within (guest_of j) ran new h.have) in
        let there : IsSomeAnd (slice_get ran.monitor.guests 0) (λ g. len + room_of (shape_of (desc_of ran.monitor)) g.size ≤ cap) =
        some-weaker (slice_get ran.monitor.guests 0) (λ g. g.size ≡ length (state_reached j).cells) (λ g. len + room_of (shape_of (desc_of ran.monitor)) g.size ≤ cap)
        (λ g e. subst (λ (d : Desc). len + room_of (shape_of d) g.size ≤ cap) (sym h.have.machine)
        (subst (λ n. len + room_of (shape_of j.desc) n ≤ cap) (sym (e ∙ reached-size)) fits)) sizes in
        subst (λ (x : Monitor). IsSomeAnd (slice_get x.guests 0) (λ g. len + room_of (shape_of (desc_of x)) g.size ≤ cap)) (sym is) there

    -- and the text that is put is that of the state that it reached
    pub saved-is : (m : Monitor) (before after : List ℕ) → m ≡ ran.monitor → before ≡ [] →
        IsSomeAnd (slice_get (virtuals new.state.cells m.guests) 0) (λ s. after ≡ before ++ saved_text (shape_of (desc_of m)) j.steps s) → after ≡ saved_of j
    saved-is m before after is none put =
        let of_ran : IsSomeAnd (slice_get (virtuals new.state.cells ran.monitor.guests) 0) (λ s. after ≡ before ++ saved_text (shape_of (desc_of ran.monitor)) j.steps s) =
        subst (λ (x : Monitor). IsSomeAnd (slice_get (virtuals new.state.cells x.guests) 0) (λ s. after ≡ before ++ saved_text (shape_of (desc_of x)) j.steps s)) is put in
        let of_one : after ≡ before ++ saved_text (shape_of (desc_of ran.monitor)) j.steps (state_reached j) =
        subst (λ ss. IsSomeAnd (slice_get ss 0) (λ s. after ≡ before ++ saved_text (shape_of (desc_of ran.monitor)) j.steps s)) states of_ran in
        of_one ∙ ap (λ b. b ++ saved_text (shape_of (desc_of ran.monitor)) j.steps (state_reached j)) none
        ∙ ap (λ (d : Desc). saved_text (shape_of d) j.steps (state_reached j)) h.have.machine

-- what is known of the run of a plan, whose machine, image and steps are lent
module _ (p : SavePlan) (m : Machine) (images : List (List ℕ)) (n : ℕ) (old new : Machinery) (same : m ≡ p.judged.machine) (one : images ≡ p.image ∷ []) (count : n ≡ p.steps) where
  of_plan : (P : GuestRun → Type 0) → P (run_of m images one_slice n) → P (guest_of (save_run p))
  of_plan P h =
      subst (λ (x : Machine). P (run_of x (p.image ∷ []) one_slice p.steps)) same
      (subst (λ (xs : List (List ℕ)). P (run_of m xs one_slice p.steps)) one (subst (λ (k : ℕ). P (run_of m images one_slice k)) count h))

  pub plan-set_up : SetUp (run_of m images one_slice n) old new → SetUp (guest_of (save_run p)) old new
  plan-set_up h = of_plan (λ r. SetUp r old new) h

  pub plan-ran : RanGuests (run_of m images one_slice n) old new → RanGuests (guest_of (save_run p)) old new
  plan-ran h = of_plan (λ r. RanGuests r old new) h

  pub plan-have : (ran : Ran) → HaveRun (run_of m images one_slice n) ran new → HaveRun (guest_of (save_run p)) ran new
  plan-have ran h = of_plan (λ r. HaveRun r ran new) h

  pub plan-has : (ran : Ran) → HaveRun (run_of m images one_slice n) ran new → RanGuests (run_of m images one_slice n) old new → HasRun (save_run p) ran old new
  plan-has ran have left = record { can_run = p.can_run; have = plan-have ran have; left = plan-ran left; whole = p.filled }

-- ---- a saved guest

saved-state : (d : Desc) (g : SavedGuest) → IsSaved (shape_of d) g → IsState d g.state
saved-state d g h = record { size_least = h.least; size_most = h.most; words = h.words; fields = h.fields }

pub state-runs : (m : Machine) (saved : Saved) (skip steps : ℕ) → IsSaved (shape_of m.desc) (guest_saved saved) → kept_cells + (saved.state.size + skip) ≤ m.desc.size → steps ≤ 1000000 →
    CanRun (state_run m skip (state_of saved.state) one_slice steps)
state-runs m saved skip steps h room few =
    let s : State = state_of saved.state in
    let cells : length s.cells ≡ saved.state.size = length-storage_of saved.state.size saved.state.cells in
    record {
      states = record {
        each = All-cons (IsState m.desc) s [] (saved-state m.desc (guest_saved saved) h) (All-nil (IsState m.desc));
        above = omega arith;
        room = omega (arith, cells, room);
      };
      some = omega arith;
      counted = omega (arith, few);
    }
