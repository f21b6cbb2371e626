-- What is known of what a reader read: each step of reading leaves its tokens behind it.
use Rattle.std.proofs.Common.{◌≡◌, ℕ, Bool, true, false, cond, ◌==◌, List, [], ◌∷◌, Option, None, Some, IfSome, bytes_eq, get_or, ap, sym, ◌∙◌, subst, refl}
use Rattle.std.proofs.lemmas.Bool.{eqb-true}
use Rattle.std.proofs.lemmas.Slice.Eq.{bytes_eq-Decides}
use Rattle.pg_lang_token.specs.Words.{is_name}
use Rattle.pg_lang_token.specs.declared.tok.Tok.{Tok}
use Rattle.pg_lang_token.specs.declared.tok.Tok.TheVariants.{Word, Number, Pattern, Sign}
use Rattle.pg_lang_token.specs.declared.tok.Sign.{Sign as Signs}
use Rattle.pg_lang_token.specs.declared.tok.Sign.TheVariants.{OpenBrace, CloseBrace, OpenParen, CloseParen, OpenBracket, CloseBracket, Semicolon, Comma, Colon, Equals, DoubleEquals, Tilde, Plus, Minus, Star, Ampersand, Bar, Caret, LessThan, DoubleLess, DoubleGreater}
use Rattle.pg_ast.specs.declared.name.Name.{Name as Names}
use Rattle.pg_ast.specs.Reading.{then_read, past_found, past_sign, past_word, past_number, past_name, sign_number, name_when, name_of}

signs : List Signs
signs =
    OpenBrace ∷ CloseBrace ∷ OpenParen ∷ CloseParen ∷ OpenBracket ∷ CloseBracket ∷ Semicolon ∷ Comma ∷ Colon ∷ Equals ∷ DoubleEquals ∷
    Tilde ∷ Plus ∷ Minus ∷ Star ∷ Ampersand ∷ Bar ∷ Caret ∷ LessThan ∷ DoubleLess ∷ DoubleGreater ∷ []

sign-at : (s : Signs) → get_or signs (sign_number s) OpenBrace ≡ s
unfolding signs
sign-at OpenBrace = refl
sign-at CloseBrace = refl
sign-at OpenParen = refl
sign-at CloseParen = refl
sign-at OpenBracket = refl
sign-at CloseBracket = refl
sign-at Semicolon = refl
sign-at Comma = refl
sign-at Colon = refl
sign-at Equals = refl
sign-at DoubleEquals = refl
sign-at Tilde = refl
sign-at Plus = refl
sign-at Minus = refl
sign-at Star = refl
sign-at Ampersand = refl
sign-at Bar = refl
sign-at Caret = refl
sign-at LessThan = refl
sign-at DoubleLess = refl
sign-at DoubleGreater = refl

-- signs of one number are one sign
pub sign_number-injective : (s t : Signs) → sign_number s ≡ sign_number t → s ≡ t
sign_number-injective s t e = sym (sign-at s) ∙ ap (λ n. get_or signs n OpenBrace) e ∙ sign-at t

-- signs that the test finds equal are equal
pub same_sign : (s t : Signs) → sign_number s == sign_number t ≡ true → s ≡ t
same_sign s t e = sign_number-injective s t (eqb-true _ _ e)

-- words that the test finds equal are equal
pub same_word : (v w : List ℕ) → bytes_eq v w ≡ true → v ≡ w
same_word v w e = (bytes_eq-Decides v w).0 e

-- what holds of a value that was read holds where the value is known
pub read_at : {B : Type 0} (P : B → Type 0) (x : Option B) (b : B) → IfSome x P → x ≡ Some b → P b
read_at P x b h e = let Q : Option _ → Type 0 = λ y. IfSome y P in subst Q e h

pub cond-holds : {B : Type 0} (P : B → Type 0) (c : Bool) (x y : Option B) → (c ≡ true → IfSome x P) → (c ≡ false → IfSome y P) → IfSome (cond c x y) P
cond-holds P true x y h k = h refl
cond-holds P false x y h k = k refl

pub then_read-holds : {A B : Type 0} (P : B → Type 0) (x : Option (A × List Tok)) (go : A → List Tok → Option B) → ((a : A) (us : List Tok) → x ≡ Some (a, us) → IfSome (go a us) P) → IfSome (then_read x go) P
then_read-holds P None go h = tt
then_read-holds P (Some p) go h = h p.0 p.1 refl

pub past_found-holds : {A B : Type 0} (P : B → Type 0) (x : Option A) (ts : List Tok) (go : A → List Tok → Option B) → ((a : A) → x ≡ Some a → IfSome (go a ts) P) → IfSome (past_found x ts go) P
past_found-holds P None ts go h = tt
past_found-holds P (Some a) ts go h = h a refl

pub past_sign-holds : {B : Type 0} (P : B → Type 0) (s : Signs) (ts : List Tok) (go : List Tok → Option B) → ((us : List Tok) → ts ≡ Sign s ∷ us → IfSome (go us) P) → IfSome (past_sign s ts go) P
past_sign-holds P s [] go h = tt
past_sign-holds P s (Word w ∷ ts) go h = tt
past_sign-holds P s (Number n ∷ ts) go h = tt
past_sign-holds P s (Pattern w ∷ ts) go h = tt
past_sign-holds P s (Sign t ∷ ts) go h =
    cond-holds P (sign_number t == sign_number s) (go ts) None (λ e. h ts (ap (λ u. Sign u ∷ ts) (same_sign t s e))) (λ e. tt)

pub past_word-holds : {B : Type 0} (P : B → Type 0) (w : List ℕ) (ts : List Tok) (go : List Tok → Option B) → ((us : List Tok) → ts ≡ Word w ∷ us → IfSome (go us) P) → IfSome (past_word w ts go) P
past_word-holds P w [] go h = tt
past_word-holds P w (Word v ∷ ts) go h = cond-holds P (bytes_eq v w) (go ts) None (λ e. h ts (ap (λ u. Word u ∷ ts) (same_word v w e))) (λ e. tt)
past_word-holds P w (Number n ∷ ts) go h = tt
past_word-holds P w (Pattern v ∷ ts) go h = tt
past_word-holds P w (Sign t ∷ ts) go h = tt

pub past_number-holds : {B : Type 0} (P : B → Type 0) (ts : List Tok) (go : ℕ → List Tok → Option B) → ((n : ℕ) (us : List Tok) → ts ≡ Number n ∷ us → IfSome (go n us) P) → IfSome (past_number ts go) P
past_number-holds P [] go h = tt
past_number-holds P (Word v ∷ ts) go h = tt
past_number-holds P (Number n ∷ ts) go h = h n ts refl
past_number-holds P (Pattern v ∷ ts) go h = tt
past_number-holds P (Sign t ∷ ts) go h = tt

name_when-holds : (w : List ℕ) (b : Bool) (e : is_name w ≡ b) → IfSome (name_when w b e) (λ n. n.bytes ≡ w)
name_when-holds w true e = refl
name_when-holds w false e = tt

-- the name that was found has these bytes
pub name_of-holds : (w : List ℕ) → IfSome (name_of w) (λ n. n.bytes ≡ w)
unfolding name_of
name_of-holds w = name_when-holds w (is_name w) refl

pub past_name-holds : {B : Type 0} (P : B → Type 0) (ts : List Tok) (go : Names → List Tok → Option B) → ((n : Names) (us : List Tok) → ts ≡ Word n.bytes ∷ us → IfSome (go n us) P) → IfSome (past_name ts go) P
past_name-holds P [] go h = tt
past_name-holds P (Word w ∷ ts) go h =
    past_found-holds P (name_of w) ts go (λ n e. h n ts (ap (λ u. Word u ∷ ts) (sym (read_at (λ m. m.bytes ≡ w) (name_of w) n (name_of-holds w) e))))
past_name-holds P (Number n ∷ ts) go h = tt
past_name-holds P (Pattern v ∷ ts) go h = tt
past_name-holds P (Sign t ∷ ts) go h = tt
