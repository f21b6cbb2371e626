-- What a line leaves as it is, whatever it says: the description, the family, and how far the text has been fed.
use Rattle.std.proofs.Common.{◌≡◌, ℕ, suc, ◌+◌, Bool, true, false, List, ◌*◌, length, Option, None, Some, refl, subst, ◌∙◌}
use Rattle.std.specs.Prelude.{⊤, ◌==◌, nat_lt, if◌then◌else◌, slice_get, Result, Ok, Err}
use Rattle.pg_lang_meaning.specs.States.{shape_of}
use Rattle.pg_type.specs.declared.kind.Kind.{Kind}
use Rattle.pg_cert.specs.declared.line.Heading.{Heading}
use Rattle.pg_cert.specs.declared.line.Found.{Found}
use Rattle.pg_cert.specs.declared.line.Line.{Line}
use Rattle.pg_cert.specs.declared.line.Line.TheVariants as line
use Rattle.pg_cert.specs.Texts.{family_of}
use Rattle.pg_cert.specs.Validity.{may_remove}
use Rattle.pg_cert.specs.Verdicts.{kind_count}
use Rattle.pg_cert.specs.Parsing.{Said, Says, NoToken, NoForm, OtherVersion, said}
use Rattle.pg_verify.specs.declared.fault.VerifyFault.{VerifyFault}
use Rattle.pg_verify.specs.declared.fault.VerifyFault.TheVariants as fault
use Rattle.pg_verify.specs.Reader.{Pair, NoState, FirstSize, FirstState, SecondSize, BothStates, Open, Fresh, Between, Refuting, Showing, Spending, Ended, Mark, Refuted, Shown, Spent, Progress, Reader}
use Rattle.pg_verify.specs.Taking.{then_take, misplaced, with_open, reopened, after_step, after_remove, with_size, with_psw, with_cells, after_state_line, missing, marked, shows_due, may_close, closed_pair, closed_open, closed, opening, clauses_at, opened_with, placed, named, instr_named, kind_place, with_header, after_header, ended, all_findings, after_end, is_first_due, after_first, after_form, after_said, after_line}
use Rattle.pg_verify.proofs.Standing.{Keeps}

-- where a reader has not refused, it keeps what a line leaves
abbrev pub KeepsOn : Progress → Reader → Type 0
KeepsOn p (Ok q) = Keeps p q
KeepsOn p (Err f) = ⊤

same : (p : Progress) → Keeps p p
same p = record { desc = refl; family = refl; lines = refl; fed = refl; rest = refl }

join : (p q r : Progress) → Keeps p q → Keeps q r → Keeps p r
join p q r a b = record { desc = b.desc ∙ a.desc; family = b.family ∙ a.family; lines = b.lines ∙ a.lines; fed = b.fed ∙ a.fed; rest = b.rest ∙ a.rest }

either : (p : Progress) (b : Bool) (x y : Reader) → KeepsOn p x → KeepsOn p y → KeepsOn p (if b then x else y)
either p true x y a c = a
either p false x y a c = c

both : (p : Progress) (r : Reader) (go : Progress → Reader) → KeepsOn p r → ((q : Progress) → KeepsOn q (go q)) → KeepsOn p (then_take r go)
both p (Ok q) go a h = join_on (go q) (h q)
  where
    join_on : (s : Reader) → KeepsOn q s → KeepsOn p s
    join_on (Ok r) b = join p q r a b
    join_on (Err f) b = tt
both p (Err f) go a h = tt

opened : (p : Progress) (o : Open) → Keeps p (with_open p o)
opened p o = record { desc = refl; family = refl; lines = refl; fed = refl; rest = refl }

with_mark : (p : Progress) (m : Mark) → Keeps p (marked p m)
with_mark p m = record { desc = refl; family = refl; lines = refl; fed = refl; rest = refl }

reopened-keeps : (p : Progress) (next : Result Open VerifyFault) → KeepsOn p (reopened p next)
reopened-keeps p (Ok o) = opened p o
reopened-keeps p (Err f) = tt

pair-keeps : (p : Progress) (header : ℕ) (pair : Pair) → KeepsOn p (closed_pair p header pair)
pair-keeps p header NoState = same p
pair-keeps p header (FirstSize size) = same p
pair-keeps p header (FirstState s) = same p
pair-keeps p header (SecondSize s size) = same p
pair-keeps p header (BothStates s t) = either p (shows_due p s t) (Ok (marked p (Shown s t))) (Err (fault.BadPair header)) (with_mark p (Shown s t)) tt

open-keeps : (p : Progress) (o : Open) → KeepsOn p (closed_open p o)
open-keeps p Fresh = same p
open-keeps p Between = same p
open-keeps p (Refuting header log) = either p log.closed (Ok (marked p Refuted)) (Err (fault.NotClosed header)) (with_mark p Refuted) tt
open-keeps p (Showing header pair) = pair-keeps p header pair
open-keeps p (Spending header budget count log) = either p (count == budget) (Ok (marked p (Spent budget))) (Err (fault.BadSpent header)) (with_mark p (Spent budget)) tt
open-keeps p Ended = same p

closed-keeps : (p : Progress) → KeepsOn p (closed p)
unfolding closed
closed-keeps p = open-keeps p p.opened

placed-keeps : (p : Progress) (instr : ℕ) (k : Kind) (place : ℕ) (f : Found) → KeepsOn p (placed p instr k place f)
placed-keeps p instr k place f =
    let number : ℕ = instr * kind_count p.family + place in
    either p (nat_lt number (length p.marks)) (Err (fault.Extra p.lines)) (if nat_lt (length p.marks) number then missing p else opened_with p instr k f) tt
    (either p (nat_lt (length p.marks) number) (missing p) (opened_with p instr k f) tt (opened p (opening p.lines (clauses_at p.desc k (slice_get p.desc.instrs instr)) f)))

named-keeps : (p : Progress) (o : Option ℕ) (k : Kind) (place : ℕ) (f : Found) → KeepsOn p (named p o k place f)
named-keeps p None k place f = tt
named-keeps p (Some instr) k place f = placed-keeps p instr k place f

header-keeps : (p : Progress) (name : List ℕ) (k : Kind) (o : Option ℕ) (f : Found) → KeepsOn p (with_header p name k o f)
header-keeps p name k None f = tt
header-keeps p name k (Some place) f = both p (closed p) (λ after. named after (instr_named after.desc name) k place f) (closed-keeps p) (λ q. named-keeps q (instr_named q.desc name) k place f)

after_header-keeps : (p : Progress) (name : List ℕ) (k : Kind) (f : Found) → KeepsOn p (after_header p name k f)
unfolding after_header
after_header-keeps p name k f = either p (may_close p.opened) (with_header p name k (kind_place p.family k) f) (misplaced p.lines) (header-keeps p name k (kind_place p.family k) f) tt

ended-keeps : (p : Progress) → KeepsOn p (ended p)
ended-keeps p = either p (length p.marks == all_findings p) (Ok (with_open p Ended)) (missing p) (opened p Ended) tt

after_end-keeps : (p : Progress) → KeepsOn p (after_end p)
unfolding after_end
after_end-keeps p = either p (may_close p.opened) (then_take (closed p) ended) (misplaced p.lines) (both p (closed p) ended (closed-keeps p) ended-keeps) tt

after_first-keeps : (p : Progress) (h : Heading) → KeepsOn p (after_first p h)
unfolding after_first
after_first-keeps p h =
    either p (is_first_due p (family_of h)) (Ok (record p { opened = Between; removes = may_remove h })) (misplaced p.lines)
    (record { desc = refl; family = refl; lines = refl; fed = refl; rest = refl }) tt

pub after_form-keeps : (p : Progress) (l : Line) → KeepsOn p (after_form p l)
unfolding after_form
after_form-keeps p (line.First heading) = after_first-keeps p heading
after_form-keeps p (line.Header name k f) = after_header-keeps p name k f
after_form-keeps p (line.Step step) = reopened-keeps p (after_step p.lines step p.opened)
after_form-keeps p (line.Remove numbers) = reopened-keeps p (after_remove p.lines p.removes numbers p.opened)
after_form-keeps p (line.Size size) = reopened-keeps p (after_state_line p.lines (with_size size) p.opened)
after_form-keeps p (line.Psw psw) = reopened-keeps p (after_state_line p.lines (with_psw psw) p.opened)
after_form-keeps p (line.Cells first words) = reopened-keeps p (after_state_line p.lines (with_cells first words) p.opened)
after_form-keeps p line.End = after_end-keeps p

after_said-keeps : (p : Progress) (s : Said) → KeepsOn p (after_said p s)
unfolding after_said
after_said-keeps p (Says l) = after_form-keeps p l
after_said-keeps p NoToken = tt
after_said-keeps p NoForm = tt
after_said-keeps p (OtherVersion family) = either p (is_first_due p family) (Err fault.Version) (misplaced p.lines) tt tt

-- a line that is not refused counts one line more, and nothing else of how far the text has been fed
pub line_kept : (p q : Progress) (bytes : List ℕ) → after_line p bytes ≡ Ok q → Keeps (record p { lines = suc p.lines }) q
unfolding after_line
line_kept p q bytes e =
    subst (KeepsOn (record p { lines = suc p.lines })) e (after_said-keeps (record p { lines = suc p.lines }) (said (shape_of p.desc) bytes))
