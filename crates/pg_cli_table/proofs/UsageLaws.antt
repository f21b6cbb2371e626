-- The text of usage, a line of it split off.
use Rattle.std.proofs.Common.{◌≡◌, ◌∙◌, ◌+◌, ◌<◌, ◌≤◌, ◌++◌, ap, ℕ, List, [], drop, length, refl, slice_index_or, sym}
use Rattle.std.proofs.lemmas.List.{append-nil, append_assoc, drop_all, drop_more}
use Rattle.pg_cli_table.specs.Commands.{commands, synopsis, usage_text, usages}
use Rattle.pg_cli_table.specs.Synopses.{Text, usage}
use Rattle.pg_cli_table.specs.declared.names.CommandName.{CommandName}

-- before the first line
pub usage_none : [] ++ usages commands ≡ usage_text
unfolding usage_text
usage_none = refl

-- one line more
pub usage_line : (cs : List CommandName) (i : ℕ) (d : CommandName) (sent line : Text) → i < length cs → line ≡ usage (synopsis (slice_index_or cs i d))
    → sent ++ usages (drop i cs) ≡ usage_text → (sent ++ line) ++ usages (drop (i + 1) cs) ≡ usage_text
usage_line cs i d sent line within is whole =
    append_assoc sent line _ ∙ ap (λ (t : Text). sent ++ (t ++ usages (drop (i + 1) cs))) is
    ∙ ap (λ (xs : List CommandName). sent ++ usages xs) (sym (drop_more cs i d within)) ∙ whole

-- after the last line
pub usage_all : (cs : List CommandName) (i : ℕ) (sent : Text) → length cs ≤ i → sent ++ usages (drop i cs) ≡ usage_text → sent ≡ usage_text
usage_all cs i sent past whole = sym (append-nil sent) ∙ ap (λ (xs : List CommandName). sent ++ usages xs) (sym (drop_all i cs past)) ∙ whole
