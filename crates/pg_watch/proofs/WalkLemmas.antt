-- A walk over the clauses that watch a literal.
use Rattle.std.proofs.Common.{◌≡◌, ℕ, ◌+◌, ◌<◌, ◌≤◌, ◌⊎◌, inl, inr, false, ℤ, pos, List, length, get_or, Some, sym, ap, subst, arith}
use Rattle.std.proofs.lemmas.Bool.{cases_lt}
use Rattle.pg_cnf.specs.Literals.{IsLiteral}
use Rattle.pg_watch.specs.declared.lists.Watch.{Watch}
use Rattle.pg_watch.specs.declared.index.Pair.{Pair}
use Rattle.pg_watch.specs.Trail.{Trail, value_of}
use Rattle.pg_watch.specs.Places.{place_of}
use Rattle.pg_watch.specs.Watching.{list_at, entry_at, IsAttached, IsSettled, IsIndex, Keeps}
use Rattle.pg_watch.specs.Visits.{HasStayed}
use Rattle.pg_watch.specs.Walks.{HasLeft}
use Rattle.pg_watch.proofs.Keeps.{Keeps-same, Keeps-more, value_of-later}
use Rattle.pg_watch.proofs.Moves.{has_listed}
use Rattle.pg_watch.proofs.Removes.{IsIndex-keeps}

-- so far in the list each clause that watches the literal has one that is true
abbrev pub AreSettled : List (List ℤ) → List ℤ → List (List Watch) → List Pair → ℤ → ℕ → Type 0
AreSettled cs zs ls ps gone at =
    (i : ℕ) → i < at → IsSettled cs zs ps gone (entry_at ls (place_of gone) i).clause

pub record IsWalking (cs : List (List ℤ)) (s t : Trail) (ls ms : List (List Watch)) (ps qs : List Pair) (gone : ℤ) (at : ℕ) : Type 0 where
  pub keeps : Keeps cs s t ls ms ps qs
  pub index : IsIndex cs t ms qs
  pub literal : IsLiteral t.variables gone
  pub gone_false : value_of t.literals gone ≡ Some false
  pub within : at ≤ length (list_at ms (place_of gone))
  pub settled : AreSettled cs t.literals ms qs gone at

pub walking-none : (cs : List (List ℤ)) (s : Trail) (ls : List (List Watch)) (ps : List Pair) (gone : ℤ) → IsIndex cs s ls ps → IsLiteral s.variables gone →
    value_of s.literals gone ≡ Some false → IsWalking cs s s ls ls ps ps gone 0
walking-none cs s ls ps gone h l f = record {
  keeps = Keeps-same cs s ls ps h.trail;
  index = h;
  literal = l;
  gone_false = f;
  within = omega arith;
  settled = λ i lt. absurd (omega arith);
}

module _ (cs : List (List ℤ)) (r s t : Trail) (ks ls ms : List (List Watch)) (os ps qs : List Pair) (gone : ℤ) (at : ℕ)
    (h : IsWalking cs r s ks ls os ps gone at) (k : Keeps cs s t ls ms ps qs) where
  later_false : value_of t.literals gone ≡ Some false
  later_false = value_of-later s.literals t.literals gone false k.steps.extends.literals h.gone_false

  later_literal : IsLiteral t.variables gone
  later_literal = subst (λ (n : ℕ). IsLiteral n gone) (sym k.steps.extends.variables) h.literal

  later_settled : (i : ℕ) → i < at → i < length (list_at ls (place_of gone)) → IsSettled cs t.literals qs gone (entry_at ls (place_of gone) i).clause
  later_settled i lt within =
      k.settled (entry_at ls (place_of gone) i).clause gone (h.index.entries (place_of gone) i within).clause h.gone_false (h.settled i lt)

  settled-cases : (i : ℕ) → list_at ms (place_of gone) ≡ list_at ls (place_of gone) → at < length (list_at ls (place_of gone)) → i < at + 1 →
      IsSettled cs t.literals qs gone (entry_at ls (place_of gone) at).clause → (i < at) ⊎ (at ≤ i) →
      IsSettled cs t.literals qs gone (entry_at ls (place_of gone) i).clause
  settled-cases i same lt in_all own (inl less) = later_settled i less (omega arith)
  settled-cases i same lt in_all own (inr more) =
      let e : at ≡ i = omega arith in
      subst (λ (j : ℕ). IsSettled cs t.literals qs gone (entry_at ls (place_of gone) j).clause) e own

  pub walking-stays : at < length (list_at ls (place_of gone)) → HasStayed cs t.literals ls ms qs gone (entry_at ls (place_of gone) at).clause →
      IsWalking cs r t ks ms os qs gone (at + 1)
  walking-stays lt stayed = record {
    keeps = Keeps-more cs r s t ks ls ms os ps qs h.keeps k;
    index = IsIndex-keeps cs s t ls ms ps qs h.index k;
    literal = later_literal;
    gone_false = later_false;
    within = omega (arith, ap length stayed.list, lt);
    settled = λ i less. subst (λ (xs : List Watch). IsSettled cs t.literals qs gone (get_or xs i (record { clause = 0; blocker = pos 0 })).clause) (sym stayed.list)
        (settled-cases i stayed.list lt less stayed.settled (cases_lt i at));
  }

  pub walking-leaves : at < length (list_at ls (place_of gone)) → HasLeft ls ms (place_of gone) at → IsWalking cs r t ks ms os qs gone at
  walking-leaves lt left = record {
    keeps = Keeps-more cs r s t ks ls ms os ps qs h.keeps k;
    index = IsIndex-keeps cs s t ls ms ps qs h.index k;
    literal = later_literal;
    gone_false = later_false;
    within = omega (arith, left.shorter, lt);
    settled = λ i less.
        subst (λ (x : Watch). IsSettled cs t.literals qs gone x.clause) (sym (left.before i less)) (later_settled i less (omega arith));
  }

  pub walking-keeps : Keeps cs r t ks ms os qs
  walking-keeps = Keeps-more cs r s t ks ls ms os ps qs h.keeps k

-- at the end of the list
pub walking-all : (cs : List (List ℤ)) (s t : Trail) (ls ms : List (List Watch)) (ps qs : List Pair) (gone : ℤ) (at : ℕ) →
    IsWalking cs s t ls ms ps qs gone at → length (list_at ms (place_of gone)) ≤ at → (k : ℕ) → k < length cs → IsAttached cs ms qs k →
    IsSettled cs t.literals qs gone k
walking-all cs s t ls ms ps qs gone at h le k lt attached has =
    let listed = has_listed cs ms qs k gone attached has in
    let settled = h.settled listed.place (omega (arith, listed.within, le)) in
    subst (λ (j : ℕ). IsSettled cs t.literals qs gone j) listed.same settled has
