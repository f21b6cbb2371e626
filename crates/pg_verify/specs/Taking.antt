-- What a line does to what was read before it, by what it says.
use Rattle.std.specs.Prelude.{ℕ, suc, ◌+◌, ◌*◌, Bool, true, false, not, ◌&&◌, ◌==◌, nat_lt, if◌then◌else◌, ℤ, List, [], ◌∷◌, ◌++◌, length, position, bytes_eq, Option, None, Some, slice_get, Result, Ok, Err}
use Rattle.pg_word.specs.declared.psw.Psw.{Psw as Psws}
use Rattle.pg_ast.specs.declared.tree.Instr.{Instr}
use Rattle.pg_ast.specs.declared.tree.Desc.{Desc}
use Rattle.pg_lang_meaning.specs.States.{shape_of}
use Rattle.pg_lang_valid.specs.Twice.{instr_names}
use Rattle.pg_type.specs.declared.kind.Kind.{Kind}
use Rattle.pg_type.specs.declared.kind.Kind.TheVariants as kind
use Rattle.pg_proof.specs.declared.step.ProofFault.{ProofFault}
use Rattle.pg_proof.specs.declared.step.ProofFault.TheVariants as proof
use Rattle.pg_proof.specs.declared.step.Step.{Step as Steps}
use Rattle.pg_proof.specs.State.{State as Log, begun, is_empty, with_clause}
use Rattle.pg_proof.specs.Refutation.{fault_of}
use Rattle.pg_proof.specs.Tight.{is_tight}
use Rattle.pg_proof.specs.Covered.{is_covered}
use Rattle.pg_proof.specs.Removal.{after_removal}
use Rattle.pg_ask.specs.Question.{question}
use Rattle.pg_cert.specs.declared.cert.Family.{Family}
use Rattle.pg_cert.specs.declared.cert.Family.TheVariants.{Plain, Hybrid}
use Rattle.pg_cert.specs.declared.line.Heading.{Heading}
use Rattle.pg_cert.specs.declared.line.Found.{Found}
use Rattle.pg_cert.specs.declared.line.Found.TheVariants as found
use Rattle.pg_cert.specs.declared.line.Line.{Line}
use Rattle.pg_cert.specs.declared.line.Line.TheVariants as line
use Rattle.pg_cert.specs.Verdicts.{kind_count}
use Rattle.pg_cert.specs.Parsing.{Said, Says, NoToken, NoForm, OtherVersion, said}
use Rattle.pg_cert.specs.Texts.{family_of, instr_of, kind_of}
use Rattle.pg_cert.specs.Validity.{may_remove}
use Rattle.pg_cert_drawn.specs.Drawn.{Drawn, state_of, drawn, with_row}
use Rattle.pg_verify.specs.declared.fault.VerifyFault.{VerifyFault}
use Rattle.pg_verify.specs.declared.fault.VerifyFault.TheVariants as fault
use Rattle.pg_verify.specs.declared.fault.StepCause.TheVariants.{UnknownLit, UnknownHint, NotUnit, NoConflict}
use Rattle.pg_verify.specs.Reader.{Pair, NoState, FirstSize, FirstState, SecondSize, BothStates, Open, Fresh, Between, Refuting, Showing, Spending, Ended, Mark, Refuted, Shown, Spent, Progress, Reader}
use Rattle.pg_verify.specs.Judging.{shows}

-- ---- what may come of a line

-- a value and what is done with it, or a refusal
abbrev pub then_take : {X Y : Type 0} → Result X VerifyFault → (X → Result Y VerifyFault) → Result Y VerifyFault
then_take (Ok x) go = go x
then_take (Err f) go = Err f

-- no such line may stand there. Each line is given by its number
abbrev pub misplaced : {X : Type 0} → ℕ → Result X VerifyFault
misplaced n = Err (fault.Grammar n)

abbrev pub with_open : Progress → Open → Progress
with_open p o = record p { opened = o }

-- what is open changes, and nothing else
abbrev pub reopened : Progress → Result Open VerifyFault → Reader
reopened p next = then_take next (λ o. Ok (with_open p o))

-- ---- steps

-- why a line is refused whose step a checker refuses. Lack of memory stays what it is
abbrev pub step_fault_of : ℕ → ProofFault → VerifyFault
step_fault_of n proof.UnknownLit = fault.BadStep n UnknownLit
step_fault_of n proof.UnknownHint = fault.BadStep n UnknownHint
step_fault_of n proof.NotUnit = fault.BadStep n NotUnit
step_fault_of n proof.NoConflict = fault.BadStep n NoConflict
step_fault_of n proof.UnknownClause = fault.BadStep n NoConflict
step_fault_of n proof.Memory = fault.Memory

-- where a step is valid
abbrev pub where_valid : {X : Type 0} → ℕ → Option ProofFault → Result X VerifyFault → Result X VerifyFault
where_valid n None valid = valid
where_valid n (Some f) valid = Err (step_fault_of n f)

-- a log with one step more
abbrev pub with_step : ℕ → Log → Steps → Result Log VerifyFault
with_step n log step = where_valid n (fault_of log.variables log.held step) (Ok (with_clause log step.lits))

-- beside being valid: not empty, tight, and no clause held is part of it
abbrev pub is_worth : Log → Steps → Bool
is_worth log step = not (is_empty step.lits) && (is_tight log.variables log.held step && not (is_covered log.held step.lits))

-- a spent log with one step more: one that is left, and worth its place
abbrev pub with_spent_step : ℕ → (budget count : ℕ) → Log → Steps → Result Log VerifyFault
with_spent_step n budget count log step =
    where_valid n (fault_of log.variables log.held step)
    (if nat_lt count budget && is_worth log step then Ok (with_clause log step.lits) else Err (fault.BadSpent n))

unfoldable pub after_step : ℕ → Steps → Open → Result Open VerifyFault
after_step n step Fresh = misplaced n
after_step n step Between = misplaced n
after_step n step (Refuting header log) = then_take (with_step n log step) (λ after. Ok (Refuting header after))
after_step n step (Showing header pair) = misplaced n
after_step n step (Spending header budget count log) = then_take (with_spent_step n budget count log step) (λ after. Ok (Spending header budget (suc count) after))
after_step n step Ended = misplaced n

abbrev pub held_after : ℕ → Option Log → Result Log VerifyFault
held_after n None = Err (fault.BadDelete n)
held_after n (Some log) = Ok log

unfoldable pub after_remove : ℕ → Bool → List ℕ → Open → Result Open VerifyFault
after_remove n removes numbers Fresh = misplaced n
after_remove n removes numbers Between = misplaced n
after_remove n removes numbers (Refuting header log) =
    (if removes then then_take (held_after n (after_removal log numbers)) (λ after. Ok (Refuting header after)) else misplaced n)
after_remove n removes numbers (Showing header pair) = misplaced n
after_remove n removes numbers (Spending header budget count log) = misplaced n
after_remove n removes numbers Ended = misplaced n

-- ---- states

-- a pair of states with one line more, or none where it may not stand there
abbrev pub with_size : ℕ → Pair → Option Pair
with_size size NoState = Some (FirstSize size)
with_size size (FirstSize m) = None
with_size size (FirstState s) = Some (SecondSize s size)
with_size size (SecondSize s m) = None
with_size size (BothStates s t) = None

abbrev pub with_psw : Psws → Pair → Option Pair
with_psw psw NoState = None
with_psw psw (FirstSize size) = Some (FirstState (drawn size psw))
with_psw psw (FirstState s) = None
with_psw psw (SecondSize s size) = Some (BothStates s (drawn size psw))
with_psw psw (BothStates s t) = None

abbrev pub as_first : Option Drawn → Option Pair
as_first None = None
as_first (Some s) = Some (FirstState s)

abbrev pub as_second : Drawn → Option Drawn → Option Pair
as_second s None = None
as_second s (Some t) = Some (BothStates s t)

abbrev pub with_cells : ℕ → List ℕ → Pair → Option Pair
with_cells first words NoState = None
with_cells first words (FirstSize size) = None
with_cells first words (FirstState s) = as_first (with_row first words s)
with_cells first words (SecondSize s size) = None
with_cells first words (BothStates s t) = as_second s (with_row first words t)

abbrev pub shown_on : ℕ → ℕ → Option Pair → Result Open VerifyFault
shown_on n header None = misplaced n
shown_on n header (Some pair) = Ok (Showing header pair)

unfoldable pub after_state_line : ℕ → (Pair → Option Pair) → Open → Result Open VerifyFault
after_state_line n go Fresh = misplaced n
after_state_line n go Between = misplaced n
after_state_line n go (Refuting header log) = misplaced n
after_state_line n go (Showing header pair) = shown_on n header (go pair)
after_state_line n go (Spending header budget count log) = misplaced n
after_state_line n go Ended = misplaced n

-- ---- findings

-- the finding that is due has the number of those that are closed
abbrev pub due_instr : Progress → ℕ
due_instr p = instr_of p.family (length p.marks)

abbrev pub due_kind : Progress → Kind
due_kind p = kind_of p.family (length p.marks)

abbrev pub all_findings : Progress → ℕ
all_findings p = length p.desc.instrs * kind_count p.family

abbrev pub missing : {X : Type 0} → Progress → Result X VerifyFault
missing p = Err (fault.Missing (due_instr p) (due_kind p))

abbrev pub shows_at : Desc → Kind → Option Instr → Drawn → Drawn → Bool
shows_at d k None s t = false
shows_at d k (Some i) s t = shows d i k (state_of s) (state_of t)

-- whether two states show the kind that is due of the instruction that is due
abbrev pub shows_due : Progress → Drawn → Drawn → Bool
shows_due p s t = shows_at p.desc (due_kind p) (slice_get p.desc.instrs (due_instr p)) s t

-- a header, or the last line, may stand where no finding is open or the one that is has come to an end
abbrev pub is_whole : Pair → Bool
is_whole NoState = false
is_whole (FirstSize size) = false
is_whole (FirstState s) = false
is_whole (SecondSize s size) = false
is_whole (BothStates s t) = true

abbrev pub may_close : Open → Bool
may_close Fresh = false
may_close Between = true
may_close (Refuting header log) = true
may_close (Showing header pair) = is_whole pair
may_close (Spending header budget count log) = true
may_close Ended = false

abbrev pub marked : Progress → Mark → Progress
marked p mark = record p { marks = p.marks ++ mark ∷ []; opened = Between }

abbrev pub closed_pair : Progress → ℕ → Pair → Reader
closed_pair p header NoState = Ok p
closed_pair p header (FirstSize size) = Ok p
closed_pair p header (FirstState s) = Ok p
closed_pair p header (SecondSize s size) = Ok p
closed_pair p header (BothStates s t) = (if shows_due p s t then Ok (marked p (Shown s t)) else Err (fault.BadPair header))

abbrev pub closed_open : Progress → Open → Reader
closed_open p Fresh = Ok p
closed_open p Between = Ok p
closed_open p (Refuting header log) = (if log.closed then Ok (marked p Refuted) else Err (fault.NotClosed header))
closed_open p (Showing header pair) = closed_pair p header pair
closed_open p (Spending header budget count log) = (if count == budget then Ok (marked p (Spent budget)) else Err (fault.BadSpent header))
closed_open p Ended = Ok p

-- the finding that is open is closed: its mark is kept, or the text is refused
unfoldable pub closed : Progress → Reader
closed p = closed_open p p.opened

-- ---- headers, and the last line

-- the clauses of a question
abbrev pub clauses_at : Desc → Kind → Option Instr → List (List ℤ)
clauses_at d k None = []
clauses_at d k (Some i) = question d i k

abbrev pub opening : ℕ → List (List ℤ) → Found → Open
opening header clauses found.Refuted = Refuting header (begun clauses)
opening header clauses found.Shown = Showing header NoState
opening header clauses (found.Spent budget) = Spending header budget 0 (begun clauses)

-- a finding of an instruction and a kind opens
abbrev pub opened_with : Progress → (instr : ℕ) → Kind → Found → Reader
opened_with p instr k f = Ok (with_open p (opening p.lines (clauses_at p.desc k (slice_get p.desc.instrs instr)) f))

-- one by its places opens where it is the one that is due
abbrev pub placed : Progress → (instr : ℕ) → Kind → (place : ℕ) → Found → Reader
placed p instr k place f =
    let number = instr * kind_count p.family + place in
    (if nat_lt number (length p.marks) then Err (fault.Extra p.lines)
    else (if nat_lt (length p.marks) number then missing p
    else opened_with p instr k f))

abbrev pub named : Progress → Option ℕ → Kind → (place : ℕ) → Found → Reader
named p None k place f = Err (fault.NoSuchInstr p.lines)
named p (Some instr) k place f = placed p instr k place f

abbrev pub instr_named : Desc → List ℕ → Option ℕ
instr_named d name = position (λ n. bytes_eq n name) (instr_names d.instrs)

-- the place of a kind among those of a family, if it is one of them
abbrev pub kind_place : Family → Kind → Option ℕ
kind_place Plain kind.Privileged = Some 0
kind_place Plain kind.Control = Some 1
kind_place Plain kind.ModeDep = Some 2
kind_place Plain kind.Location = Some 3
kind_place Plain kind.Bound = Some 4
kind_place Plain kind.UControl = None
kind_place Plain kind.ULocation = None
kind_place Plain kind.UBound = None
kind_place Hybrid kind.Privileged = Some 0
kind_place Hybrid kind.Control = None
kind_place Hybrid kind.ModeDep = None
kind_place Hybrid kind.Location = None
kind_place Hybrid kind.Bound = None
kind_place Hybrid kind.UControl = Some 1
kind_place Hybrid kind.ULocation = Some 2
kind_place Hybrid kind.UBound = Some 3

abbrev pub with_header : Progress → List ℕ → Kind → Option ℕ → Found → Reader
with_header p name k None f = misplaced p.lines
with_header p name k (Some place) f = then_take (closed p) (λ after. named after (instr_named after.desc name) k place f)

unfoldable pub after_header : Progress → List ℕ → Kind → Found → Reader
after_header p name k f = (if may_close p.opened then with_header p name k (kind_place p.family k) f else misplaced p.lines)

abbrev pub ended : Progress → Reader
ended p = (if length p.marks == all_findings p then Ok (with_open p Ended) else missing p)

unfoldable pub after_end : Progress → Reader
after_end p = (if may_close p.opened then then_take (closed p) ended else misplaced p.lines)

-- ---- lines

abbrev pub is_fresh : Open → Bool
is_fresh Fresh = true
is_fresh Between = false
is_fresh (Refuting header log) = false
is_fresh (Showing header pair) = false
is_fresh (Spending header budget count log) = false
is_fresh Ended = false

abbrev pub same_family : Family → Family → Bool
same_family Plain Plain = true
same_family Plain Hybrid = false
same_family Hybrid Plain = false
same_family Hybrid Hybrid = true

-- a first line of this family is due
abbrev pub is_first_due : Progress → Family → Bool
is_first_due p family = is_fresh p.opened && same_family family p.family

unfoldable pub after_first : Progress → Heading → Reader
after_first p heading =
    (if is_first_due p (family_of heading) then Ok (record p { opened = Between; removes = may_remove heading }) else misplaced p.lines)

-- by what the line says; its number is that of the lines taken
unfoldable pub after_form : Progress → Line → Reader
after_form p (line.First heading) = after_first p heading
after_form p (line.Header name k f) = after_header p name k f
after_form p (line.Step step) = reopened p (after_step p.lines step p.opened)
after_form p (line.Remove numbers) = reopened p (after_remove p.lines p.removes numbers p.opened)
after_form p (line.Size size) = reopened p (after_state_line p.lines (with_size size) p.opened)
after_form p (line.Psw psw) = reopened p (after_state_line p.lines (with_psw psw) p.opened)
after_form p (line.Cells first words) = reopened p (after_state_line p.lines (with_cells first words) p.opened)
after_form p line.End = after_end p

unfoldable pub after_said : Progress → Said → Reader
after_said p (Says l) = after_form p l
after_said p NoToken = Err (fault.Token p.lines)
after_said p NoForm = misplaced p.lines
after_said p (OtherVersion family) = (if is_first_due p family then Err fault.Version else misplaced p.lines)

-- one line more: its bytes, its LF among them
unfoldable pub after_line : Progress → List ℕ → Reader
after_line p bytes = after_said (record p { lines = suc p.lines }) (said (shape_of p.desc) bytes)
