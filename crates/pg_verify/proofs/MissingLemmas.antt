-- A finding that is told to be missing is asked for: no more findings are closed, or open, than there are.
use Rattle.std.proofs.Common.{◌≡◌, ◌≢◌, ℕ, suc, ◌+◌, ◌*◌, ◌%◌, ◌<◌, ◌≤◌, Bool, true, false, if◌then◌else◌, List, [], ◌∷◌, ◌++◌, length, Option, None, Some, Result, Ok, Err, refl, sym, ap, subst, ◌∙◌, arith, slice_get, ℤ, length-append}
use Rattle.std.specs.Prelude.{⊤, ◌==◌, ◌&&◌, nat_lt}
use Rattle.std.proofs.lemmas.Bool.{eqb-false, ltb-true, ltb-false}
use Rattle.std.proofs.lemmas.List.Elements.{Contains-get_or}
use Rattle.std.proofs.lemmas.Nat.{mul-add-lt}
use Rattle.pg_ast.specs.declared.tree.Desc.{Desc}
use Rattle.pg_lang_meaning.specs.States.{shape_of}
use Rattle.pg_type.specs.declared.kind.Kind.{Kind}
use Rattle.pg_type.specs.declared.kind.Kind.TheVariants.{Privileged}
use Rattle.pg_proof.specs.declared.step.ProofFault.{ProofFault}
use Rattle.pg_proof.specs.declared.step.ProofFault.TheVariants as proof
use Rattle.pg_proof.specs.declared.step.Step.{Step}
use Rattle.pg_proof.specs.State.{State as Log, with_clause}
use Rattle.pg_proof.specs.Refutation.{fault_of}
use Rattle.pg_proof.specs.Removal.{after_removal}
use Rattle.pg_cert.specs.declared.cert.Family.{Family}
use Rattle.pg_cert.specs.declared.line.Heading.{Heading}
use Rattle.pg_cert.specs.declared.line.Found.{Found}
use Rattle.pg_cert.specs.declared.line.Found.TheVariants as found
use Rattle.pg_cert.specs.declared.line.Line.{Line}
use Rattle.pg_cert.specs.declared.line.Line.TheVariants as line
use Rattle.pg_cert.specs.Verdicts.{kinds_of, kind_count}
use Rattle.pg_cert.specs.Parsing.{Said, Says, NoToken, NoForm, OtherVersion, said}
use Rattle.pg_cert.specs.Texts.{family_of, instr_of, kind_of}
use Rattle.pg_cert.specs.Validity.{may_remove}
use Rattle.pg_cert.specs.declared.report.Report.{Report}
use Rattle.pg_verify.specs.declared.fault.VerifyFault.{VerifyFault}
use Rattle.pg_verify.specs.declared.fault.VerifyFault.TheVariants as fault
use Rattle.pg_verify.specs.Reader.{Pair, NoState, FirstSize, FirstState, SecondSize, BothStates, Open, Fresh, Between, Refuting, Showing, Spending, Ended, Mark, Refuted, Shown, Spent, Progress, Reader}
use Rattle.pg_verify.specs.Taking.{then_take, misplaced, with_open, reopened, step_fault_of, where_valid, with_step, is_worth, with_spent_step, after_step, held_after, after_remove, with_size, with_psw, with_cells, shown_on, after_state_line, due_instr, due_kind, missing, marked, shows_due, may_close, closed_pair, closed_open, closed, opening, clauses_at, opened_with, placed, named, instr_named, kind_place, with_header, after_header, ended, all_findings, after_end, is_first_due, after_first, after_form, after_said, after_line}
use Rattle.pg_verify.specs.Feeding.{most_bytes, begun, taken_byte, fed_byte, fed, or_misplaced, without_end, at_end, at_rest, finished, verified, verified_whole, IsAnswer}
use Rattle.pg_verify.specs.Verified.{IsAsked}
use Rattle.pg_verify.proofs.FormLemmas.{kind_placed, named_is}
use Rattle.pg_verify.proofs.FindingReach.{place_small, instr_small}

-- how many findings are open
abbrev opened_count : Open → ℕ
opened_count Fresh = 0
opened_count Between = 0
opened_count (Refuting header log) = 1
opened_count (Showing header pair) = 1
opened_count (Spending header budget count log) = 1
opened_count Ended = 0

module _ (d : Desc) (family : Family) where
  -- a finding that a refusal names is asked for
  abbrev NamesAsked : VerifyFault → Type 0
  NamesAsked fault.Long = ⊤
  NamesAsked (fault.Token n) = ⊤
  NamesAsked (fault.Grammar n) = ⊤
  NamesAsked fault.Version = ⊤
  NamesAsked (fault.NoSuchInstr n) = ⊤
  NamesAsked (fault.BadStep n cause) = ⊤
  NamesAsked (fault.NotClosed n) = ⊤
  NamesAsked (fault.BadPair n) = ⊤
  NamesAsked (fault.BadSpent n) = ⊤
  NamesAsked (fault.Missing instr kind) = IsAsked d family instr kind
  NamesAsked (fault.Extra n) = ⊤
  NamesAsked (fault.BadDelete n) = ⊤
  NamesAsked fault.Memory = ⊤

  abbrev Tells : {X : Type 0} → (X → Type 0) → Result X VerifyFault → Type 0
  Tells P (Ok x) = P x
  Tells P (Err f) = NamesAsked f

  then_tells : {X Y : Type 0} (P : X → Type 0) (Q : Y → Type 0) (r : Result X VerifyFault)
      (go : X → Result Y VerifyFault) → Tells P r → ((x : X) → P x → Tells Q (go x)) → Tells Q (then_take r go)
  then_tells P Q (Ok x) go h step = step x h
  then_tells P Q (Err f) go h step = h

  if_tells : {X : Type 0} (P : X → Type 0) (b : Bool) (x y : Result X VerifyFault) → (b ≡ true → Tells P x) →
      (b ≡ false → Tells P y) → Tells P (if b then x else y)
  if_tells P true x y a c = a refl
  if_tells P false x y a c = c refl

  -- ---- what is open

  abbrev HasCount : ℕ → Open → Type 0
  HasCount n o = opened_count o ≡ n

  fault_tells : (n : ℕ) (f : ProofFault) → NamesAsked (step_fault_of n f)
  fault_tells n proof.UnknownLit = tt
  fault_tells n proof.UnknownHint = tt
  fault_tells n proof.NotUnit = tt
  fault_tells n proof.NoConflict = tt
  fault_tells n proof.UnknownClause = tt
  fault_tells n proof.Memory = tt

  valid_tells : (n : ℕ) (o : Option ProofFault) (r : Result Log VerifyFault) → Tells (λ (x : Log). ⊤) r →
      Tells (λ (x : Log). ⊤) (where_valid n o r)
  valid_tells n None r h = h
  valid_tells n (Some f) r h = fault_tells n f

  step_tells : (n : ℕ) (step : Step) (o : Open) → Tells (HasCount (opened_count o)) (after_step n step o)
  unfolding after_step
  step_tells n step Fresh = tt
  step_tells n step Between = tt
  step_tells n step (Refuting header log) =
      then_tells (λ (x : Log). ⊤) (HasCount 1) (with_step n log step) (λ after. Ok (Refuting header after))
      (valid_tells n (fault_of log.variables log.held step) (Ok (with_clause log step.lits)) tt) (λ x t. refl)
  step_tells n step (Showing header pair) = tt
  step_tells n step (Spending header budget count log) =
      let worth : Bool = nat_lt count budget && is_worth log step in
      then_tells (λ (x : Log). ⊤) (HasCount 1) (with_spent_step n budget count log step)
      (λ after. Ok (Spending header budget (suc count) after))
      (valid_tells n (fault_of log.variables log.held step)
      (if worth then Ok (with_clause log step.lits) else Err (fault.BadSpent n))
      (if_tells (λ (x : Log). ⊤) worth (Ok (with_clause log step.lits)) (Err (fault.BadSpent n)) (λ e. tt) (λ e. tt)))
      (λ x t. refl)
  step_tells n step Ended = tt

  held_tells : (n : ℕ) (o : Option Log) → Tells (λ (x : Log). ⊤) (held_after n o)
  held_tells n None = tt
  held_tells n (Some log) = tt

  remove_tells : (n : ℕ) (removes : Bool) (numbers : List ℕ) (o : Open) →
      Tells (HasCount (opened_count o)) (after_remove n removes numbers o)
  unfolding after_remove
  remove_tells n removes numbers Fresh = tt
  remove_tells n removes numbers Between = tt
  remove_tells n removes numbers (Refuting header log) =
      if_tells (HasCount 1) removes
      (then_take (held_after n (after_removal log numbers)) (λ after. Ok (Refuting header after))) (misplaced n)
      (λ e. then_tells (λ (x : Log). ⊤) (HasCount 1) (held_after n (after_removal log numbers))
      (λ after. Ok (Refuting header after)) (held_tells n (after_removal log numbers)) (λ x t. refl)) (λ e. tt)
  remove_tells n removes numbers (Showing header pair) = tt
  remove_tells n removes numbers (Spending header budget count log) = tt
  remove_tells n removes numbers Ended = tt

  pair_tells : (n header : ℕ) (o : Option Pair) → Tells (HasCount 1) (shown_on n header o)
  pair_tells n header None = tt
  pair_tells n header (Some pair) = refl

  state_tells : (n : ℕ) (go : Pair → Option Pair) (o : Open) →
      Tells (HasCount (opened_count o)) (after_state_line n go o)
  unfolding after_state_line
  state_tells n go Fresh = tt
  state_tells n go Between = tt
  state_tells n go (Refuting header log) = tt
  state_tells n go (Showing header pair) = pair_tells n header (go pair)
  state_tells n go (Spending header budget count log) = tt
  state_tells n go Ended = tt

  -- ---- what was read

  record HasRoom (p : Progress) : Type 0 where
    desc_is : p.desc ≡ d
    family_is : p.family ≡ family
    few : length p.marks + opened_count p.opened ≤ length d.instrs * kind_count family

  reopened_tells : (p : Progress) (next : Result Open VerifyFault) → HasRoom p →
      Tells (HasCount (opened_count p.opened)) next → Tells HasRoom (reopened p next)
  reopened_tells p (Ok o) h e =
      record { desc_is = h.desc_is; family_is = h.family_is; few = omega (arith, h.few, e) }
  reopened_tells p (Err f) h e = e

  missing_tells : (p : Progress) → HasRoom p → length p.marks < length d.instrs * kind_count family →
      NamesAsked (fault.Missing (due_instr p) (due_kind p))
  missing_tells p h l =
      let n : ℕ = length p.marks in
      subst (λ x. IsAsked d family (instr_of x n) (kind_of x n)) (sym h.family_is)
      (record {
        there = instr_small family n (length d.instrs) l;
        among = Contains-get_or (kinds_of family) (n % kind_count family) Privileged (place_small family n);
      })

  -- ---- a finding that closes

  marked_has : (p : Progress) (m : Mark) → HasRoom p →
      length p.marks + 1 ≤ length d.instrs * kind_count family → HasRoom (marked p m)
  marked_has p m h l = record {
    desc_is = h.desc_is;
    family_is = h.family_is;
    few = omega (arith, l, length-append p.marks (m ∷ []));
  }

  two_tell : (p : Progress) (header : ℕ) (pair : Pair) → HasRoom p →
      length p.marks + 1 ≤ length d.instrs * kind_count family → Tells HasRoom (closed_pair p header pair)
  two_tell p header NoState h l = h
  two_tell p header (FirstSize size) h l = h
  two_tell p header (FirstState s) h l = h
  two_tell p header (SecondSize s size) h l = h
  two_tell p header (BothStates s t) h l =
      if_tells HasRoom (shows_due p s t) (Ok (marked p (Shown s t))) (Err (fault.BadPair header))
      (λ e. marked_has p (Shown s t) h l) (λ e. tt)

  open_tells : (p : Progress) (o : Open) → HasRoom p →
      length p.marks + opened_count o ≤ length d.instrs * kind_count family → Tells HasRoom (closed_open p o)
  open_tells p Fresh h l = h
  open_tells p Between h l = h
  open_tells p (Refuting header log) h l =
      if_tells HasRoom log.closed (Ok (marked p Refuted)) (Err (fault.NotClosed header))
      (λ e. marked_has p Refuted h l) (λ e. tt)
  open_tells p (Showing header pair) h l = two_tell p header pair h l
  open_tells p (Spending header budget count log) h l =
      if_tells HasRoom (count == budget) (Ok (marked p (Spent budget))) (Err (fault.BadSpent header))
      (λ e. marked_has p (Spent budget) h l) (λ e. tt)
  open_tells p Ended h l = h

  closed_tells : (p : Progress) → HasRoom p → Tells HasRoom (closed p)
  unfolding closed
  closed_tells p h = open_tells p p.opened h h.few

  -- ---- headers, and the last line

  opening_count : (n : ℕ) (clauses : List (List ℤ)) (f : Found) → opened_count (opening n clauses f) ≡ 1
  opening_count n clauses found.Refuted = refl
  opening_count n clauses found.Shown = refl
  opening_count n clauses (found.Spent budget) = refl

  placed_tells : (p : Progress) (instr : ℕ) (k : Kind) (place : ℕ) (f : Found) → HasRoom p →
      instr < length d.instrs → place < kind_count family → Tells HasRoom (placed p instr k place f)
  placed_tells p instr k place f h l m =
      let number : ℕ = instr * kind_count p.family + place in
      let clauses : List (List ℤ) = clauses_at p.desc k (slice_get p.desc.instrs instr) in
      let same : number ≡ instr * kind_count family + place = ap (λ x. instr * kind_count x + place) h.family_is in
      let below : instr * kind_count family + place < length d.instrs * kind_count family =
      omega (arith, mul-add-lt instr (kind_count family) place (length d.instrs) l m) in
      if_tells HasRoom (nat_lt number (length p.marks)) (Err (fault.Extra p.lines))
      (if nat_lt (length p.marks) number then missing p else opened_with p instr k f) (λ e. tt)
      (λ e. if_tells HasRoom (nat_lt (length p.marks) number) (missing p) (opened_with p instr k f)
      (λ g. let under : length p.marks < number = ltb-true (length p.marks) number g in
      missing_tells p h (omega (arith, under, same, below)))
      (λ g. let low = ltb-false number (length p.marks) e in
      let high = ltb-false (length p.marks) number g in
      record {
        desc_is = h.desc_is;
        family_is = h.family_is;
        few = omega (arith, low, high, same, below, opening_count p.lines clauses f);
      }))

  named_tells : (p : Progress) (name : List ℕ) (o : Option ℕ) (k : Kind) (place : ℕ) (f : Found) →
      instr_named p.desc name ≡ o → HasRoom p → place < kind_count family → Tells HasRoom (named p o k place f)
  named_tells p name None k place f e h m = tt
  named_tells p name (Some instr) k place f e h m =
      let known = named_is p.desc name instr e in
      placed_tells p instr k place f h (subst (λ (x : Desc). instr < length x.instrs) h.desc_is known.in_range) m

  header_tells : (p : Progress) (name : List ℕ) (k : Kind) (o : Option ℕ) (f : Found) → kind_place p.family k ≡ o →
      HasRoom p → Tells HasRoom (with_header p name k o f)
  header_tells p name k None f e h = tt
  header_tells p name k (Some place) f e h =
      let at = kind_placed family k place (subst (λ x. kind_place x k ≡ Some place) h.family_is e) in
      then_tells HasRoom HasRoom (closed p) (λ (after : Progress). named after (instr_named after.desc name) k place f)
      (closed_tells p h) (λ q g. named_tells q name (instr_named q.desc name) k place f refl g at.small)

  after_header_tells : (p : Progress) (name : List ℕ) (k : Kind) (f : Found) → HasRoom p →
      Tells HasRoom (after_header p name k f)
  unfolding after_header
  after_header_tells p name k f h =
      if_tells HasRoom (may_close p.opened) (with_header p name k (kind_place p.family k) f) (misplaced p.lines)
      (λ e. header_tells p name k (kind_place p.family k) f refl h) (λ e. tt)

  ended_tells : (p : Progress) → HasRoom p → Tells HasRoom (ended p)
  ended_tells p h =
      let all : all_findings p ≡ length d.instrs * kind_count family =
      ap (λ (x : Desc). length x.instrs * kind_count p.family) h.desc_is
      ∙ ap (λ x. length d.instrs * kind_count x) h.family_is in
      if_tells HasRoom (length p.marks == all_findings p) (Ok (with_open p Ended)) (missing p)
      (λ e. record { desc_is = h.desc_is; family_is = h.family_is; few = omega (arith, h.few) })
      (λ e. let other : length p.marks ≢ all_findings p = eqb-false (length p.marks) (all_findings p) e in
      missing_tells p h (omega (arith, h.few, other, all)))

  after_end_tells : (p : Progress) → HasRoom p → Tells HasRoom (after_end p)
  unfolding after_end
  after_end_tells p h =
      if_tells HasRoom (may_close p.opened) (then_take (closed p) ended) (misplaced p.lines)
      (λ e. then_tells HasRoom HasRoom (closed p) ended (closed_tells p h) ended_tells) (λ e. tt)

  -- ---- lines

  after_first_tells : (p : Progress) (heading : Heading) → HasRoom p → Tells HasRoom (after_first p heading)
  unfolding after_first
  after_first_tells p heading h =
      if_tells HasRoom (is_first_due p (family_of heading))
      (Ok (record p { opened = Between; removes = may_remove heading })) (misplaced p.lines)
      (λ e. record { desc_is = h.desc_is; family_is = h.family_is; few = omega (arith, h.few) }) (λ e. tt)

  form_tells : (p : Progress) (l : Line) → HasRoom p → Tells HasRoom (after_form p l)
  unfolding after_form
  form_tells p (line.First heading) h = after_first_tells p heading h
  form_tells p (line.Header name k f) h = after_header_tells p name k f h
  form_tells p (line.Step step) h =
      reopened_tells p (after_step p.lines step p.opened) h (step_tells p.lines step p.opened)
  form_tells p (line.Remove numbers) h =
      reopened_tells p (after_remove p.lines p.removes numbers p.opened) h
      (remove_tells p.lines p.removes numbers p.opened)
  form_tells p (line.Size size) h =
      reopened_tells p (after_state_line p.lines (with_size size) p.opened) h
      (state_tells p.lines (with_size size) p.opened)
  form_tells p (line.Psw psw) h =
      reopened_tells p (after_state_line p.lines (with_psw psw) p.opened) h
      (state_tells p.lines (with_psw psw) p.opened)
  form_tells p (line.Cells first words) h =
      reopened_tells p (after_state_line p.lines (with_cells first words) p.opened) h
      (state_tells p.lines (with_cells first words) p.opened)
  form_tells p line.End h = after_end_tells p h

  said_tells : (p : Progress) (s : Said) → HasRoom p → Tells HasRoom (after_said p s)
  unfolding after_said
  said_tells p (Says l) h = form_tells p l h
  said_tells p NoToken h = tt
  said_tells p NoForm h = tt
  said_tells p (OtherVersion other) h =
      if_tells HasRoom (is_first_due p other) (Err fault.Version) (misplaced p.lines) (λ e. tt) (λ e. tt)

  line_tells : (p : Progress) (bytes : List ℕ) → HasRoom p → Tells HasRoom (after_line p bytes)
  unfolding after_line
  line_tells p bytes h =
      said_tells (record p { lines = suc p.lines }) (said (shape_of p.desc) bytes)
      (record { desc_is = h.desc_is; family_is = h.family_is; few = h.few })

  -- ---- bytes

  byte_tells : (p : Progress) (c : ℕ) → HasRoom p → Tells HasRoom (fed_byte p c)
  unfolding fed_byte
  byte_tells p c h =
      if_tells HasRoom (p.fed == most_bytes) (Err fault.Long) (taken_byte (record p { fed = suc p.fed }) c) (λ e. tt)
      (λ e. if_tells HasRoom (c == 10) (after_line (record p { fed = suc p.fed; rest = [] }) (p.rest ++ c ∷ []))
      (Ok (record p { fed = suc p.fed; rest = p.rest ++ c ∷ [] }))
      (λ g. line_tells (record p { fed = suc p.fed; rest = [] }) (p.rest ++ c ∷ [])
      (record { desc_is = h.desc_is; family_is = h.family_is; few = h.few }))
      (λ g. record { desc_is = h.desc_is; family_is = h.family_is; few = h.few }))

  fed_tells : (p : Progress) (bytes : List ℕ) → HasRoom p → Tells HasRoom (fed p bytes)
  unfolding fed
  fed_tells p [] h = h
  fed_tells p (c ∷ cs) h =
      then_tells HasRoom HasRoom (fed_byte p c) (λ after. fed after cs) (byte_tells p c h) (λ q g. fed_tells q cs g)

  or_tells : (n : ℕ) (r : Reader) → Tells HasRoom r → Tells HasRoom (or_misplaced n r)
  or_tells n (Ok p) h = tt
  or_tells n (Err f) h = h

  early_tells : (p : Progress) → HasRoom p → Tells HasRoom (without_end p)
  early_tells p h =
      or_tells (suc p.lines) (after_form (record p { lines = suc p.lines }) line.End)
      (form_tells (record p { lines = suc p.lines }) line.End
      (record { desc_is = h.desc_is; family_is = h.family_is; few = h.few }))

  at_end_tells : (p : Progress) (o : Open) → HasRoom p → Tells HasRoom (at_end p o)
  at_end_tells p Fresh h = early_tells p h
  at_end_tells p Between h = early_tells p h
  at_end_tells p (Refuting header log) h = early_tells p h
  at_end_tells p (Showing header pair) h = early_tells p h
  at_end_tells p (Spending header budget count log) h = early_tells p h
  at_end_tells p Ended h = h

  finished_tells : (p : Progress) → HasRoom p → Tells HasRoom (finished p)
  unfolding finished
  finished_tells p h = by p.rest
    where
      by : (rest : List ℕ) → Tells HasRoom (at_rest p rest)
      by [] = at_end_tells p p.opened h
      by (c ∷ cs) =
          or_tells (suc p.lines) (after_line (record p { rest = [] }) (c ∷ cs))
          (line_tells (record p { rest = [] }) (c ∷ cs)
          (record { desc_is = h.desc_is; family_is = h.family_is; few = h.few }))

  verified_tells : (bytes : List ℕ) → Tells HasRoom (verified d family bytes)
  unfolding verified
  verified_tells bytes =
      then_tells HasRoom HasRoom (fed (begun d family) bytes) finished
      (fed_tells (begun d family) bytes (record { desc_is = refl; family_is = refl; few = omega arith }))
      finished_tells

  pub missing_findings_are_asked : (bytes : List ℕ) (instr : ℕ) (kind : Kind) →
      verified d family bytes ≡ Err (fault.Missing instr kind) → IsAsked d family instr kind
  missing_findings_are_asked bytes instr kind e = subst (λ r. Tells HasRoom r) e (verified_tells bytes)

  whole_tells : (bytes : List ℕ) → Tells HasRoom (verified_whole d family bytes)
  whole_tells bytes =
      if_tells HasRoom (nat_lt most_bytes (length bytes)) (Err fault.Long) (verified d family bytes) (λ e. tt)
      (λ e. verified_tells bytes)

  -- and so where a whole text is answered
  pub missing_answers_are_asked : (bytes : List ℕ) (r : Result Report VerifyFault) →
      IsAnswer (verified_whole d family bytes) r → (instr : ℕ) (kind : Kind) → r ≡ Err (fault.Missing instr kind) →
      IsAsked d family instr kind
  missing_answers_are_asked bytes r h instr kind e =
      let due : fault.Missing instr kind ≢ fault.Memory →
      verified_whole d family bytes ≡ Err (fault.Missing instr kind) =
      subst (λ x. IsAnswer (verified_whole d family bytes) x) e h in
      subst (λ x. Tells HasRoom x) (due (λ same. cc)) (whole_tells bytes)
