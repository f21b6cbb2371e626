-- Words that are taken, one by one.
use Rattle.std.proofs.Common.{rules, ◌≡◌, ℕ, ◌<◌, ◌≤◌, List, [], ◌∷◌, length, get_or, map, Option, None, Some, sym, ap, ◌∙◌, Bool, true, Bor, arith}
use Rattle.std.specs.Cmp.Lexicographic.{pointwise}
use Rattle.std.specs.Prelude.{codes, option_copied, IfSome}
use Rattle.std.proofs.Math.Dec.{eqb}
use Rattle.pg_cert.specs.Reading.{read_kind}
use Rattle.pg_prog_base.specs.declared.question.Names.{Names}
use Rattle.pg_prog_proofs.specs.declared.dimacs.request.Request.{Request as Question}
use Rattle.pg_prog_proofs.specs.declared.export.request.Request.{Request}
use Rattle.pg_prog_proofs.specs.Exported.{AsksDimacs, AsksExport, option_words}

module _ {X : Type 0} (text : X → List ℕ) (b c d : X) where
  -- four words, the first of which is any
  four : (xs : List X) → 4 ≤ length xs → length xs < 5 → b ≡ get_or xs 1 b → c ≡ get_or xs 2 c → d ≡ get_or xs 3 d →
      (a : List ℕ) × (map text xs ≡ a ∷ text b ∷ text c ∷ text d ∷ [])
  four [] l m at_1 at_2 at_3 = absurd (omega arith)
  four (x ∷ []) l m at_1 at_2 at_3 = absurd (omega arith)
  four (x ∷ y1 ∷ []) l m at_1 at_2 at_3 = absurd (omega arith)
  four (x ∷ y1 ∷ y2 ∷ []) l m at_1 at_2 at_3 = absurd (omega arith)
  four (x ∷ y1 ∷ y2 ∷ y3 ∷ []) l m at_1 at_2 at_3 = (text x, λ i. text x ∷ text (sym at_1 i) ∷ text (sym at_2 i) ∷ text (sym at_3 i) ∷ [])
  four (x ∷ y1 ∷ y2 ∷ y3 ∷ y4 ∷ ys) l m at_1 at_2 at_3 = absurd (omega arith)

  pub asks_dimacs : (xs : List X) (r : Question) → 4 ≤ length xs → length xs < 5 → b ≡ get_or xs 1 b → c ≡ get_or xs 2 c → d ≡ get_or xs 3 d →
      r.names.file.now ≡ text b → r.names.instr.now ≡ text c → r.names.word.now ≡ text d → read_kind r.names.word.now ≡ Some r.kind → AsksDimacs (map text xs) r
  asks_dimacs xs r l m at_1 at_2 at_3 file instr word is_kind =
      let h = four xs l m at_1 at_2 at_3 in
      record { program = h.0; in_order = h.1 ∙ (λ i. h.0 ∷ sym file i ∷ sym instr i ∷ sym word i ∷ []); is_kind = is_kind }

module _ {X : Type 0} (text : X → List ℕ) (b c d e : X) where
  -- five words
  five : (xs : List X) → 5 ≤ length xs → length xs < 6 → b ≡ get_or xs 1 b → c ≡ get_or xs 2 c → d ≡ get_or xs 3 d → e ≡ get_or xs 4 e →
      (a : List ℕ) × (map text xs ≡ a ∷ text b ∷ text c ∷ text d ∷ text e ∷ [])
  five [] l m at_1 at_2 at_3 at_4 = absurd (omega arith)
  five (x ∷ []) l m at_1 at_2 at_3 at_4 = absurd (omega arith)
  five (x ∷ y1 ∷ []) l m at_1 at_2 at_3 at_4 = absurd (omega arith)
  five (x ∷ y1 ∷ y2 ∷ []) l m at_1 at_2 at_3 at_4 = absurd (omega arith)
  five (x ∷ y1 ∷ y2 ∷ y3 ∷ []) l m at_1 at_2 at_3 at_4 = absurd (omega arith)
  five (x ∷ y1 ∷ y2 ∷ y3 ∷ y4 ∷ []) l m at_1 at_2 at_3 at_4 =
      (text x, λ i. text x ∷ text (sym at_1 i) ∷ text (sym at_2 i) ∷ text (sym at_3 i) ∷ text (sym at_4 i) ∷ [])
  five (x ∷ y1 ∷ y2 ∷ y3 ∷ y4 ∷ y5 ∷ ys) l m at_1 at_2 at_3 at_4 = absurd (omega arith)

  pub asks_log : (xs : List X) (r : Request) → 5 ≤ length xs → length xs < 6 → b ≡ get_or xs 1 b → c ≡ get_or xs 2 c → d ≡ get_or xs 3 d → e ≡ get_or xs 4 e →
      r.names.file.now ≡ text b → r.cert.now ≡ text c → r.names.instr.now ≡ text d → r.names.word.now ≡ text e → r.cnf ≡ None → read_kind r.names.word.now ≡ Some r.kind →
      AsksExport (map text xs) r
  asks_log xs r l m at_1 at_2 at_3 at_4 file cert instr word cnf is_kind =
      let h = five xs l m at_1 at_2 at_3 at_4 in
      record {
        program = h.0;
        in_order = h.1
            ∙ (λ i. h.0 ∷ sym file i ∷ sym cert i ∷ sym instr i ∷ sym word i ∷ option_words (option_copied (sym cnf i)));
        is_kind = is_kind;
      }

  pub asked_log : (xs : List X) (q : Option Request) (n : Names) (name : Bor (List ℕ)) → 5 ≤ length xs → length xs < 6 → b ≡ get_or xs 1 b → c ≡ get_or xs 2 c → d ≡ get_or xs 3 d →
      e ≡ get_or xs 4 e → n.file.now ≡ text b → name.now ≡ text c → n.instr.now ≡ text d → n.word.now ≡ text e → IfSome q (λ r. r.names ≡ n) →
      IfSome q (λ r. r.cert ≡ name) → IfSome q (λ r. read_kind n.word.now ≡ Some r.kind) → IfSome q (λ r. r.cnf ≡ None) → IfSome q (AsksExport (map text xs))
  asked_log xs None n name l m at_1 at_2 at_3 at_4 file cert instr word names certs kind cnf = tt
  asked_log xs (Some r) n name l m at_1 at_2 at_3 at_4 file cert instr word names certs kind cnf =
      asks_log xs r l m at_1 at_2 at_3 at_4 (ap (λ (x : Names). x.file.now) names ∙ file) (ap (λ (x : Bor (List ℕ)). x.now) certs ∙ cert)
      (ap (λ (x : Names). x.instr.now) names ∙ instr) (ap (λ (x : Names). x.word.now) names ∙ word) cnf (ap (λ (x : Names). read_kind x.word.now) names ∙ kind)

-- a word that equals the option's name
pub is_option : (xs : List ℕ) (r : Bool) → r ≡ pointwise eqb xs (codes "--cnf") → r ≡ true → xs ≡ codes "--cnf"
is_option xs r e is = search rules

module _ {X : Type 0} (text : X → List ℕ) (b c d e f g : X) where
  -- seven words
  seven : (xs : List X) → 7 ≤ length xs → length xs < 8 → b ≡ get_or xs 1 b → c ≡ get_or xs 2 c → d ≡ get_or xs 3 d → e ≡ get_or xs 4 e → f ≡ get_or xs 5 f →
      g ≡ get_or xs 6 g → (a : List ℕ) × (map text xs ≡ a ∷ text b ∷ text c ∷ text d ∷ text e ∷ text f ∷ text g ∷ [])
  seven [] l m at_1 at_2 at_3 at_4 at_5 at_6 = absurd (omega arith)
  seven (x ∷ []) l m at_1 at_2 at_3 at_4 at_5 at_6 = absurd (omega arith)
  seven (x ∷ y1 ∷ []) l m at_1 at_2 at_3 at_4 at_5 at_6 = absurd (omega arith)
  seven (x ∷ y1 ∷ y2 ∷ []) l m at_1 at_2 at_3 at_4 at_5 at_6 = absurd (omega arith)
  seven (x ∷ y1 ∷ y2 ∷ y3 ∷ []) l m at_1 at_2 at_3 at_4 at_5 at_6 = absurd (omega arith)
  seven (x ∷ y1 ∷ y2 ∷ y3 ∷ y4 ∷ []) l m at_1 at_2 at_3 at_4 at_5 at_6 = absurd (omega arith)
  seven (x ∷ y1 ∷ y2 ∷ y3 ∷ y4 ∷ y5 ∷ []) l m at_1 at_2 at_3 at_4 at_5 at_6 = absurd (omega arith)
  seven (x ∷ y1 ∷ y2 ∷ y3 ∷ y4 ∷ y5 ∷ y6 ∷ []) l m at_1 at_2 at_3 at_4 at_5 at_6 = (
    text x,
    λ i. text x ∷ text (sym at_1 i) ∷ text (sym at_2 i) ∷ text (sym at_3 i) ∷ text (sym at_4 i) ∷ text (sym at_5 i) ∷ text (sym at_6 i) ∷ [],
  )
  seven (x ∷ y1 ∷ y2 ∷ y3 ∷ y4 ∷ y5 ∷ y6 ∷ y7 ∷ ys) l m at_1 at_2 at_3 at_4 at_5 at_6 = absurd (omega arith)

  asks_both : (xs : List X) (r : Request) (name : Bor (List ℕ)) → 7 ≤ length xs → length xs < 8 → b ≡ get_or xs 1 b → c ≡ get_or xs 2 c → d ≡ get_or xs 3 d → e ≡ get_or xs 4 e →
      f ≡ get_or xs 5 f → g ≡ get_or xs 6 g → r.names.file.now ≡ text b → r.cert.now ≡ text c → r.names.instr.now ≡ text d → r.names.word.now ≡ text e →
      text f ≡ codes "--cnf" → name.now ≡ text g → r.cnf ≡ Some name → read_kind r.names.word.now ≡ Some r.kind → AsksExport (map text xs) r
  asks_both xs r name l m at_1 at_2 at_3 at_4 at_5 at_6 file cert instr word option saved cnf is_kind =
      let h = seven xs l m at_1 at_2 at_3 at_4 at_5 at_6 in
      record {
        program = h.0;
        in_order = h.1 ∙ (λ i. h.0 ∷ sym file i ∷ sym cert i ∷ sym instr i ∷ sym word i ∷ option i ∷ sym saved i ∷ [])
            ∙ (λ i. h.0 ∷ r.names.file.now ∷ r.cert.now ∷ r.names.instr.now ∷ r.names.word.now ∷ option_words (option_copied (sym cnf i)));
        is_kind = is_kind;
      }

  pub asked_both : (xs : List X) (q : Option Request) (n : Names) (name saved : Bor (List ℕ)) → 7 ≤ length xs → length xs < 8 → b ≡ get_or xs 1 b → c ≡ get_or xs 2 c →
      d ≡ get_or xs 3 d → e ≡ get_or xs 4 e → f ≡ get_or xs 5 f → g ≡ get_or xs 6 g → n.file.now ≡ text b → name.now ≡ text c → n.instr.now ≡ text d → n.word.now ≡ text e →
      text f ≡ codes "--cnf" → saved.now ≡ text g → IfSome q (λ r. r.names ≡ n) → IfSome q (λ r. r.cert ≡ name) →
      IfSome q (λ r. read_kind n.word.now ≡ Some r.kind) → IfSome q (λ r. r.cnf ≡ Some saved) → IfSome q (AsksExport (map text xs))
  asked_both xs None n name saved l m at_1 at_2 at_3 at_4 at_5 at_6 file cert instr word option is_saved names certs kind cnf = tt
  asked_both xs (Some r) n name saved l m at_1 at_2 at_3 at_4 at_5 at_6 file cert instr word option is_saved names certs kind cnf =
      asks_both xs r saved l m at_1 at_2 at_3 at_4 at_5 at_6 (ap (λ (x : Names). x.file.now) names ∙ file) (ap (λ (x : Bor (List ℕ)). x.now) certs ∙ cert)
      (ap (λ (x : Names). x.instr.now) names ∙ instr) (ap (λ (x : Names). x.word.now) names ∙ word) option is_saved cnf
      (ap (λ (x : Names). read_kind x.word.now) names ∙ kind)
