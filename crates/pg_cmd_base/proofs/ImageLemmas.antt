-- Images, one behind another: what their steps come to.
use Rattle.std.proofs.Common.{◌≡◌, ℕ, suc, ◌+◌, ◌<◌, ◌≤◌, List, [], ◌∷◌, ◌++◌, length, get_or, drop, Option, Err, inl, inr, refl, sym, ◌∙◌, ap, subst, arith, append_assoc, drop-cons}
use Rattle.std.proofs.lemmas.List.{append-nil, drop_all}
use Rattle.pg_edge.specs.Shelf.{Files}
use Rattle.pg_cmd_base.specs.declared.refusal.Refusal.{Refusal}
use Rattle.pg_cmd_base.specs.declared.refusal.Stop.{Stop}
use Rattle.pg_cmd_base.specs.declared.refusal.Stop.TheVariants as stop
use Rattle.pg_cmd_base.specs.Answering.{Comes}
use Rattle.pg_cmd_base.specs.Images.{ImageDue, ImagesDue}
use Rattle.pg_cmd_base.specs.Steps.{Outcome, Came, Refused, Misread}
use Rattle.pg_cmd_base.proofs.StepLemmas.{rose-within}

-- how images come out behind others
abbrev in_front : List (List ℕ) → Outcome Refusal (List (List ℕ)) → Outcome Refusal (List (List ℕ))
in_front images (Came rest) = Came (images ++ rest)
in_front images (Refused why) = Refused why
in_front images Misread = Misread

in_front-none : (o : Outcome Refusal (List (List ℕ))) → in_front [] o ≡ o
in_front-none (Came rest) = refl
in_front-none (Refused why) = refl
in_front-none Misread = refl

in_front-more : (images : List (List ℕ)) (image : List ℕ) (o : Outcome Refusal (List (List ℕ))) → in_front images (in_front (image ∷ []) o) ≡ in_front (images ++ image ∷ []) o
in_front-more images image (Came rest) = ap (λ l. Came l) (sym (append_assoc images (image ∷ []) rest))
in_front-more images image (Refused why) = refl
in_front-more images image Misread = refl

-- whatever the images that are left come to, all of them come to with those in front that were loaded
pub record LeadTo (told : Option Files) (names : List (List ℕ)) (w size number : ℕ) (images : List (List ℕ)) : Type 0 where
  pub leads : (o : Outcome Refusal (List (List ℕ))) → ImagesDue told number (drop number names) w size o → ImagesDue told 0 names w size (in_front images o)

-- one that was loaded, and those behind it
front-came : (told : Option Files) (number : ℕ) (name : List ℕ) (names : List (List ℕ)) (w size : ℕ) (image : List ℕ) (o : Outcome Refusal (List (List ℕ))) →
    ImageDue told number name w size (Came image) → ImagesDue told (suc number) names w size o → ImagesDue told number (name ∷ names) w size (in_front (image ∷ []) o)
unfolding ImagesDue
front-came told number name names w size image (Came rest) h k = (image, h, (rest, k, refl))
front-came told number name names w size image (Refused why) h k = inr (image, h, inl k)
front-came told number name names w size image Misread h k = inr (image, h, inl k)

front-refused : (told : Option Files) (number : ℕ) (name : List ℕ) (names : List (List ℕ)) (w size : ℕ) (why : Refusal) → ImageDue told number name w size (Refused why) →
    ImagesDue told number (name ∷ names) w size (Refused why)
unfolding ImagesDue
front-refused told number name names w size why h = inl h

front-misread : (told : Option Files) (number : ℕ) (name : List ℕ) (names : List (List ℕ)) (w size : ℕ) → ImageDue told number name w size Misread →
    ImagesDue told number (name ∷ names) w size Misread
unfolding ImagesDue
front-misread told number name names w size h = inl h

pub leads-none : (told : Option Files) (names : List (List ℕ)) (w size : ℕ) → LeadTo told names w size 0 []
leads-none told names w size = record { leads = λ o h. subst (ImagesDue told 0 names w size) (sym (in_front-none o)) h }

module _ (told : Option Files) (names : List (List ℕ)) (w size number : ℕ) (images : List (List ℕ)) (name : List ℕ)
    (within : number < length names) (is : name ≡ get_or names number name) (so_far : LeadTo told names w size number images) where
  split : drop number names ≡ name ∷ drop (suc number) names
  split = drop-cons names number name within ∙ ap (λ n. n ∷ drop (suc number) names) (sym is)

  of_rest : (o : Outcome Refusal (List (List ℕ))) → ImagesDue told number (name ∷ drop (suc number) names) w size o → ImagesDue told 0 names w size (in_front images o)
  of_rest o h = so_far.leads o (subst (λ l. ImagesDue told number l w size o) (sym split) h)

  next : (image : List ℕ) → ImageDue told number name w size (Came image) → LeadTo told names w size (suc number) (images ++ image ∷ [])
  next image h = record {
    leads = λ o k. subst (ImagesDue told 0 names w size) (in_front-more images image o)
        (of_rest (in_front (image ∷ []) o) (front-came told number name (drop (suc number) names) w size image o h k));
  }

  pub leads-more : (image : List ℕ) → ImageDue told number name w size (Came image) → LeadTo told names w size (number + 1) (images ++ image ∷ [])
  leads-more image h =
      let one : suc number ≡ number + 1 = omega arith in
      subst (λ n. LeadTo told names w size n (images ++ image ∷ [])) one (next image h)

  -- the next image stops them
  pub leads-stopped : {T U : Type 0} (view : T → List ℕ) (shows : U → List (List ℕ)) (before mid after : ℕ) (why : Stop) → before ≤ mid →
      Comes view (ImageDue told number name w size) mid after (Err why) → Comes shows (ImagesDue told 0 names w size) before after (Err why)
  leads-stopped view shows before mid after (stop.Refused why) earlier h = of_rest (Refused why) (front-refused told number name (drop (suc number) names) w size why h)
  leads-stopped view shows before mid after stop.ReadFault earlier h =
      (of_rest Misread (front-misread told number name (drop (suc number) names) w size h.0), rose-within before mid after after earlier (omega arith) h.1)
  leads-stopped view shows before mid after stop.Memory earlier h = tt

none-left : (told : Option Files) (number w size : ℕ) → ImagesDue told number [] w size (Came [])
unfolding ImagesDue
none-left told number w size = refl

-- no image is left
pub leads-came : (told : Option Files) (names : List (List ℕ)) (w size number : ℕ) (images : List (List ℕ)) → length names ≤ number → LeadTo told names w size number images →
    ImagesDue told 0 names w size (Came images)
leads-came told names w size number images over so_far =
    subst (λ l. ImagesDue told 0 names w size (Came l)) (append-nil images)
    (so_far.leads (Came []) (subst (λ l. ImagesDue told number l w size (Came [])) (sym (drop_all number names over)) (none-left told number w size)))
