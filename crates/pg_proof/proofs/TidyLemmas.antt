-- Acts that are made backward.
use Rattle.std.proofs.Common.{◌≡◌, ℕ, List, [], ◌∷◌, ◌++◌, replicate, Bool, false, sym, ap, ◌∙◌}
use Rattle.std.proofs.lemmas.List.{append-nil, append_assoc}
use Rattle.pg_proof.specs.declared.step.Act.{Act}
use Rattle.pg_proof.specs.Tidied.{with_named, named_flags, with_act, backward}

-- what the loop keeps: how the acts that are still to come go on
pub record AreTidied (question places : ℕ) (acts left : List Act) (flags : List Bool) (made : List Act) : Type 0 where
  pub rest : List Act
  pub whole : acts ≡ left ++ rest
  pub flagged : flags ≡ named_flags places rest
  pub so_far : made ≡ backward question places rest

pub AreTidied-begun : (question places : ℕ) (acts : List Act) (flags : List Bool) (made : List Act) → flags ≡ replicate places false → made ≡ [] →
    AreTidied question places acts acts flags made
AreTidied-begun question places acts flags made f m = record { rest = []; whole = sym (append-nil acts); flagged = f; so_far = m }

pub AreTidied-next : (question places : ℕ) (acts left before : List Act) (act : Act) (flags after : List Bool) (made more : List Act) → left ≡ before ++ act ∷ [] →
    after ≡ with_named flags act → more ≡ with_act question flags made act → AreTidied question places acts left flags made →
    AreTidied question places acts before after more
AreTidied-next question places acts left before act flags after made more l f m h = record {
  rest = act ∷ h.rest;
  whole = h.whole ∙ ap (λ x. x ++ h.rest) l ∙ append_assoc before (act ∷ []) h.rest;
  flagged = f ∙ ap (λ x. with_named x act) h.flagged;
  so_far = m ∙ (λ i. with_act question (h.flagged i) (h.so_far i) act);
}

pub AreTidied-end : (question places : ℕ) (acts left : List Act) (flags : List Bool) (made : List Act) → left ≡ [] → AreTidied question places acts left flags made →
    made ≡ backward question places acts
AreTidied-end question places acts left flags made l h = h.so_far ∙ ap (backward question places) (sym (h.whole ∙ ap (λ x. x ++ h.rest) l))
