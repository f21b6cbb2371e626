-- Runs of a bare machine: how many cells they leave, what they count, and the text of the state that they reach.
use Rattle.std.proofs.Common.{◌≡◌, ℕ, ◌-◌, ◌<◌, ◌≤◌, ◌^◌, List, length, take, drop, replicate, All, Option, Result, Err, inl, inr, refl, sym, ◌∙◌, ap, subst, arith}
use Rattle.std.proofs.lemmas.List.{length-append, length-replicate, take_all}
use Rattle.std.proofs.lemmas.List.Elements.{All-take, All-drop}
use Rattle.pg_word.specs.declared.psw.Psw.{Psw}
use Rattle.pg_word.specs.declared.shape.Shape.{Shape}
use Rattle.pg_ast.specs.declared.tree.Desc.{Desc}
use Rattle.pg_lang_meaning.specs.States.{State, IsState, shape_of}
use Rattle.pg_lang_meaning.specs.Steps.{power_on, bare}
use Rattle.pg_lang_valid.specs.Valid.{IsValid}
use Rattle.pg_lang_valid.proofs.StepSound.{steps-state, steps-length, power_on-state}
use Rattle.pg_hw.specs.Machinery.{Machinery}
use Rattle.pg_hw.specs.Running.{after_pokes, Ran}
use Rattle.pg_hw.proofs.BurstLaws.{untrapped_among-most}
use Rattle.pg_hw.specs.Serving.{blank}
use Rattle.pg_hw.specs.Tallies.{after_load}
use Rattle.pg_image.specs.Lines.{state_text}
use Rattle.pg_report.specs.Spans.{span}
use Rattle.pg_cli_table.specs.declared.bare.BareWords.{BareWords}
use Rattle.pg_edge.specs.Shelf.{Files}
use Rattle.pg_cmd_base.specs.declared.refusal.Refusal.{Refusal}
use Rattle.pg_cmd_base.specs.declared.refusal.Stop.{Stop}
use Rattle.pg_cmd_plain.specs.Bare.{BareRun, BareDue, reached, RanBare}
use Rattle.pg_cmd_plain.specs.CanRuns.{CanRun}
use Rattle.pg_cmd_base.specs.Descriptions.{DescDue}
use Rattle.pg_cmd_base.specs.Images.{ImageDue}
use Rattle.pg_cmd_base.specs.Answering.{Comes}
use Rattle.pg_cmd_base.specs.Rooms.{of_room, RoomDue}
use Rattle.pg_cmd_base.specs.Steps.{Step, Came, Refused, Then, Gives}
use Rattle.pg_cmd_base.proofs.StepLemmas.{comes-stopped, comes-behind, room-came, room-refused}
use Rattle.pg_mon_control.specs.Counting.{CanCount}

-- ---- cells

power_on-length : (image : List ℕ) (g : ℕ) → length image ≤ g → length (power_on image g).cells ≡ g
unfolding power_on
power_on-length image g h = omega (arith, length-append image (replicate (g - length image) 0), length-replicate {A = ℕ} (g - length image) 0)

-- a machine that is switched on with its image
pub first-state : (d : Desc) (g n : ℕ) (image : List ℕ) → IsValid d → CanRun d.word d.size g n image → IsState d (power_on image g)
first-state d g n image v can = power_on-state d image g v can.least can.most (omega (arith, can.whole)) can.words

-- the state that a run reaches is one of the machine's, of as many cells as were granted
pub reached-state : (r : BareRun) → IsValid r.desc → CanRun r.desc.word r.desc.size r.grant r.steps r.image → IsState r.desc (reached r)
unfolding bare
reached-state r v can = steps-state r.desc r.steps (power_on r.image r.grant) v (first-state r.desc r.grant r.steps r.image v can)

pub reached-length : (r : BareRun) → IsValid r.desc → CanRun r.desc.word r.desc.size r.grant r.steps r.image → length (reached r).cells ≡ r.grant
unfolding bare
reached-length r v can =
    steps-length r.desc r.steps (power_on r.image r.grant) v (first-state r.desc r.grant r.steps r.image v can)
    ∙ power_on-length r.image r.grant (omega (arith, can.whole))

pub blank-length : (n : ℕ) → length (blank n).cells ≡ n
unfolding blank
blank-length n = length-replicate {A = ℕ} n 0

-- the cells of a state that was reached fit the lines of its text
pub span-fits : (w v g : ℕ) (cells : List ℕ) → v ≡ w → All (λ word. word < 2 ^ w) cells → All (λ word. word < 2 ^ v) (span 0 g cells)
span-fits w v g cells same h =
    subst (λ n. All (λ word. word < 2 ^ n) (span 0 g cells)) (sym same) (All-take (λ word. word < 2 ^ w) g (drop 0 cells) (All-drop (λ word. word < 2 ^ w) 0 cells h))

-- ---- counts

-- a hardware that was switched on with the image of a run
abbrev pub switched_on : BareRun → Machinery → Machinery
switched_on r h = record h { state = power_on r.image r.grant; tally = after_load (after_pokes h.tally r.grant) }

-- a hardware on which a bare machine ran
pub RanBare-of : (r : BareRun) (old on new : Machinery) → on ≡ switched_on r old → Ran r.desc r.steps on new → CanCount old.tally → r.steps ≤ 1000000 → r.grant ≤ 1048575 →
    RanBare r old new
unfolding bare
RanBare-of r old on new is ran can few small =
    let h = subst (λ m. Ran r.desc r.steps m new) is ran in
    let most = untrapped_among-most r.desc r.steps (power_on r.image r.grant) in
    record {
      state = h.state;
      steps = ap (λ c. c.steps) h.tally ∙ omega (arith, can.steps, few);
      untrapped = ap (λ c. c.untrapped) h.tally ∙ omega (arith, can.untrapped, few, most);
      pokes = ap (λ c. c.pokes) h.tally ∙ omega (arith, can.pokes, small);
      loads = ap (λ c. c.loads) h.tally ∙ omega (arith, can.loads);
      bottom = h.bottom;
    }

-- ---- the text

pub text-of : (r : BareRun) (s : State) (shape : Shape) (psw : Psw) → s ≡ reached r → shape ≡ shape_of r.desc → psw ≡ s.psw → length (reached r).cells ≡ r.grant →
    state_text shape.w (span 0 r.grant s.cells) psw ≡ state_text r.desc.word (reached r).cells (reached r).psw
text-of r s shape psw is same loaded whole =
    let cells : take r.grant (drop 0 s.cells) ≡ (reached r).cells = ap (λ x. take r.grant (drop 0 x.cells)) is ∙ take_all r.grant (drop 0 (reached r).cells) (omega (arith, whole)) in
    let fields : psw ≡ (reached r).psw = loaded ∙ ap (λ x. x.psw) is in
    let width : shape.w ≡ r.desc.word = ap (λ x. x.w) same in
    rw (cells, fields, width) refl

-- ---- its steps

-- what comes behind the image, the room and the description
abbrev pub behind_image : BareWords → Desc → List ℕ → Step Refusal BareRun
behind_image b d image = Gives (record { desc = d; image = image; grant = b.grant; steps = b.steps })

abbrev pub behind_room : Option Files → BareWords → Desc → ℕ → Step Refusal BareRun
behind_room told b d cells = Then (ImageDue told 0 b.image d.word cells) (behind_image b d)

abbrev pub behind_desc : Option Files → BareWords → Desc → Step Refusal BareRun
behind_desc told b d = Then (RoomDue b.grant d.size) (behind_room told b d)

-- the description stops it
pub bare-stopped : {T U : Type 0} (view : T → Desc) (shows : U → BareRun) (told : Option Files) (b : BareWords) (before after : ℕ) (why : Stop) →
    Comes view (DescDue told b.desc) before after (Err why) → Comes shows (BareDue b told) before after (Err why)
unfolding BareDue
bare-stopped view shows told b before after why h = comes-stopped view shows (DescDue told b.desc) (behind_desc told b) before after after why h (omega arith)

-- the room stops it
pub bare-no_room : (told : Option Files) (b : BareWords) (d : Desc) → DescDue told b.desc (Came d) → d.size < b.grant →
    BareDue b told (Refused (of_room (record { wanted = b.grant; free = d.size })))
unfolding BareDue
bare-no_room told b d h passes = inr (d, h, inl (room-refused b.grant d.size passes))

-- what comes behind the room
bare-behind : {U : Type 0} (shows : U → BareRun) (told : Option Files) (b : BareWords) (d : Desc) (before mid after : ℕ) (r : Result U Stop) →
    DescDue told b.desc (Came d) → b.grant ≤ d.size → before ≤ mid → Comes shows (behind_room told b d b.grant) mid after r → Comes shows (BareDue b told) before after r
unfolding BareDue
bare-behind shows told b d before mid after r h fits earlier k =
    comes-behind shows (DescDue told b.desc) (behind_desc told b) d before mid after r h earlier
    (comes-behind shows (RoomDue b.grant d.size) (behind_room told b d) b.grant mid mid after r (room-came b.grant d.size fits) (omega arith) k)

-- the image stops it
pub bare-no_image : {T U : Type 0} (view : T → List ℕ) (shows : U → BareRun) (told : Option Files) (b : BareWords) (d : Desc) (before mid after : ℕ) (why : Stop) →
    DescDue told b.desc (Came d) → b.grant ≤ d.size → before ≤ mid → Comes view (ImageDue told 0 b.image d.word b.grant) mid after (Err why) →
    Comes shows (BareDue b told) before after (Err why)
bare-no_image view shows told b d before mid after why h fits earlier k =
    bare-behind shows told b d before mid after (Err why) h fits earlier
    (comes-stopped view shows (ImageDue told 0 b.image d.word b.grant) (behind_image b d) mid after after why k (omega arith))

-- nothing stops it
pub bare-runs : (told : Option Files) (b : BareWords) (d : Desc) (image : List ℕ) → DescDue told b.desc (Came d) → b.grant ≤ d.size →
    ImageDue told 0 b.image d.word b.grant (Came image) → BareDue b told (Came (record { desc = d; image = image; grant = b.grant; steps = b.steps }))
unfolding BareDue
bare-runs told b d image h fits k = (d, h, (b.grant, room-came b.grant d.size fits, (image, k, refl)))

-- ---- switching on

pub switched : (r : BareRun) (old mid new : Machinery) (words : List ℕ) → mid ≡ record old { state = blank r.grant } → words ≡ r.image → length r.image ≡ r.grant →
    new ≡ record mid { state = power_on words (length words); tally = after_load (after_pokes mid.tally (length words)) } → new ≡ switched_on r old
switched r old mid new words installed same whole is =
    let of_mid : Machinery → Machinery = λ m. record m { state = power_on words (length words); tally = after_load (after_pokes m.tally (length words)) } in
    let of_words : List ℕ → Machinery = λ l. record old { state = power_on l (length l); tally = after_load (after_pokes old.tally (length l)) } in
    let of_length : ℕ → Machinery = λ k. record old { state = power_on r.image k; tally = after_load (after_pokes old.tally k) } in
    is ∙ ap of_mid installed ∙ ap of_words same ∙ ap of_length whole
