-- What was read is what the text asks for.
use Rattle.std.proofs.Common.{◌≡◌, ◌≢◌, ℕ, ◌≤◌, List, map, length, Ok, Err, None, Some, sym, ◌∙◌, ap, refl}
use Rattle.pg_lang_token.specs.declared.tok.Tok.{Tok}
use Rattle.pg_text.specs.declared.place.Span.{Span}
use Rattle.pg_text.specs.declared.place.TextFault.{TextFault}
use Rattle.pg_text.specs.declared.place.TextFault.TheVariants.{BadByte, BadNumber, BadWord, BadPattern, Memory as NoMemory}
use Rattle.pg_text.specs.Cutting.{IsCutDue, cut}
use Rattle.pg_ast.specs.declared.tree.Desc.{Desc}
use Rattle.pg_ast.specs.Tokens.{tokens_of}
use Rattle.pg_ast.proofs.Exact.{read_at}
use Rattle.pg_read.specs.declared.fault.DescFault.{DescFault}
use Rattle.pg_read.specs.declared.fault.DescFault.TheVariants.{Long, Token, Grammar, Deep, Memory}
use Rattle.pg_read.specs.Goals.{desc_goals, judged, IsJudged}
use Rattle.pg_read.specs.Whole.{desc_at}
use Rattle.pg_read.specs.Answer.{most_desc_bytes, IsAnswer, token_fault, toks}
use Rattle.pg_read.proofs.InstrLemmas.{desc-exact, desc-tokens}
use Rattle.pg_read.proofs.JudgeLemmas.{Says, judged_says}

pub answer-fault : (text : List ℕ) (f : TextFault) → length text ≤ most_desc_bytes → IsCutDue {X = List (Tok × Span)} (Err f) (cut text) → IsAnswer text (Err (token_fault f))
answer-fault text (BadByte at) within due = (within, rw due refl)
answer-fault text (BadNumber at) within due = (within, rw due refl)
answer-fault text (BadWord at) within due = (within, rw due refl)
answer-fault text (BadPattern at) within due = (within, rw due refl)
answer-fault text NoMemory within due = tt

pub answer-read : (text : List ℕ) (ts : List (Tok × Span)) (d : Desc) → length text ≤ most_desc_bytes → cut text ≡ Ok ts → desc_at (map (λ t. t.0) ts) ≡ Some d → IsAnswer text (Ok d)
answer-read text ts d within tokens read =
    (within, rw tokens (ap Some (read_at (λ c. map (λ t. t.0) ts ≡ tokens_of c) (desc_at (map (λ t. t.0) ts)) d (desc-exact (map (λ t. t.0) ts)) read)))

none : (ts : List Tok) (d : Desc) → desc_at ts ≡ None → tokens_of d ≢ ts
none ts d read e = let back = desc-tokens d in let both : None ≡ Some d = sym read ∙ ap desc_at (sym e) ∙ back in cc

due : (text : List ℕ) (ts : List (Tok × Span)) (f : DescFault) → length text ≤ most_desc_bytes → cut text ≡ Ok ts → Says ts (length text) f → IsAnswer text (Err f)
due text ts Long within tokens says = absurd says
due text ts (Token place) within tokens says = absurd says
due text ts (Grammar place) within tokens says = (within, rw tokens says)
due text ts (Deep place) within tokens says = (within, rw tokens says)
due text ts Memory within tokens says = tt

judged-answer : (text : List ℕ) (ts : List (Tok × Span)) (f g : DescFault) → IsJudged f g → IsAnswer text (Err g) → IsAnswer text (Err f)
judged-answer text ts Long g e answer = rw e at answer
judged-answer text ts (Token place) g e answer = rw e at answer
judged-answer text ts (Grammar place) g e answer = rw e at answer
judged-answer text ts (Deep place) g e answer = rw e at answer
judged-answer text ts Memory g e answer = tt

pub answer-unread : (text : List ℕ) (ts : List (Tok × Span)) (f : DescFault) → length text ≤ most_desc_bytes → cut text ≡ Ok ts → desc_at (toks ts) ≡ None → IsJudged f (judged (length text) desc_goals ts) →
    IsAnswer text (Err f)
answer-unread text ts f within tokens read e =
    judged-answer text ts f (judged (length text) desc_goals ts) e
    (due text ts (judged (length text) desc_goals ts) within tokens (judged_says (length text) ts (λ d. none (toks ts) d read)))
