-- Names and patterns of the same bytes are the same, and so are instructions of the same parts: what each is known to keep
-- has one proof.
use Rattle.std.proofs.Common.{◌≡◌, ◌∙◌, Some, ap, sym}
use Rattle.pg_ast.specs.declared.name.Name.{Name as Names}
use Rattle.pg_ast.specs.declared.name.PatternText.{PatternText}
use Rattle.pg_ast.specs.declared.tree.Instr.{Instr}
use Rattle.pg_ast.specs.Reading.{name_of, pattern_of}
use Rattle.pg_ast.proofs.ExprReads.{name_of-bytes}
use Rattle.pg_ast.proofs.DescReads.{pattern_of-bytes, instr_of-parts}

pub same_name : (n m : Names) → n.bytes ≡ m.bytes → n ≡ m
same_name n m bytes =
    let found : Some n ≡ Some m = sym (name_of-bytes n) ∙ ap name_of bytes ∙ name_of-bytes m in cc

pub same_pattern : (p q : PatternText) → p.bytes ≡ q.bytes → p ≡ q
same_pattern p q bytes =
    let found : Some p ≡ Some q = sym (pattern_of-bytes p) ∙ ap pattern_of bytes ∙ pattern_of-bytes q in cc

pub same_instr : (i j : Instr) → i.name ≡ j.name → i.pattern ≡ j.pattern → i.body ≡ j.body → i ≡ j
same_instr i j name pattern body =
    let first = instr_of-parts i in
    let second = instr_of-parts j in
    cc
