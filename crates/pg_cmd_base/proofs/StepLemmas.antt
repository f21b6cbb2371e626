-- What functions for steps answer, one step behind another.
use Rattle.std.proofs.Common.{◌≡◌, ℕ, ◌<◌, ◌≤◌, subst, Result, Ok, Err, inl, inr, refl, sym, arith}
use Rattle.pg_edge.specs.Count.{Rose}
use Rattle.pg_cmd_base.specs.declared.refusal.Refusal.{Refusal}
use Rattle.pg_cmd_base.specs.declared.refusal.Stop.{Stop}
use Rattle.pg_cmd_base.specs.declared.refusal.Stop.TheVariants as stop
use Rattle.pg_cmd_base.specs.Rooms.{of_room, RoomDue}
use Rattle.pg_cmd_base.specs.Steps.{Step, Came, Refused, Then}
use Rattle.pg_cmd_base.specs.Answering.{Comes}

-- a count that rose in a part of a call rose in the call
pub rose-within : (before first last after : ℕ) → before ≤ first → last ≤ after → Rose first last → Rose before after
rose-within before first last after earlier later h = omega (arith, h, earlier, later)

-- a step that stops a command stops it whatever would come behind
pub comes-stopped : {T U X Y : Type 0} (view : T → X) (shows : U → Y) (first : Step Refusal X) (next : X → Step Refusal Y) (before mid after : ℕ) (why : Stop) →
    Comes view first before mid (Err why) → mid ≤ after → Comes shows (Then first next) before after (Err why)
comes-stopped view shows first next before mid after (stop.Refused why) h later = inl h
comes-stopped view shows first next before mid after stop.ReadFault h later = (inl h.0, rose-within before before mid after (omega arith) later h.1)
comes-stopped view shows first next before mid after stop.Memory h later = tt

-- what comes behind a step that was done
pub comes-behind : {U X Y : Type 0} (shows : U → Y) (first : Step Refusal X) (next : X → Step Refusal Y) (x : X) (before mid after : ℕ) (r : Result U Stop) →
    first (Came x) → before ≤ mid → Comes shows (next x) mid after r → Comes shows (Then first next) before after r
comes-behind shows first next x before mid after (Ok u) h earlier k = (x, h, k)
comes-behind shows first next x before mid after (Err (stop.Refused why)) h earlier k = inr (x, h, k)
comes-behind shows first next x before mid after (Err stop.ReadFault) h earlier k = (inr (x, h, k.0), rose-within before mid after after earlier (omega arith) k.1)
comes-behind shows first next x before mid after (Err stop.Memory) h earlier k = tt

-- ---- the room

pub room-came : (wanted free : ℕ) → wanted ≤ free → RoomDue wanted free (Came wanted)
unfolding RoomDue
room-came wanted free fits = (fits, refl)

pub room-refused : (wanted free : ℕ) → free < wanted → RoomDue wanted free (Refused (of_room (record { wanted = wanted; free = free })))
unfolding RoomDue
room-refused wanted free passes = (record { wanted = wanted; free = free }, (passes, refl), refl)

pub room-stopped : {T : Type 0} (view : T → ℕ) (wanted free w f before after : ℕ) (s : Stop) → w ≡ wanted → f ≡ free → f < w →
    s ≡ stop.Refused (of_room (record { wanted = w; free = f })) → Comes view (RoomDue wanted free) before after (Err s)
room-stopped view wanted free w f before after s more less passes is =
    subst (λ n. Comes view (RoomDue n free) before after (Err s)) more
    (subst (λ n. Comes view (RoomDue w n) before after (Err s)) less
    (subst (λ x. Comes view (RoomDue w f) before after (Err x)) (sym is) (room-refused w f passes)))

-- the same of equal files, widths and grants
pub same_three : {A B C : Type 0} (P : A → B → C → Type 0) (a a' : A) (b b' : B) (c c' : C) → a ≡ a' → b ≡ b' → c ≡ c' → P a b c → P a' b' c'
same_three P a a' b b' c c' ea eb ec h = subst (λ x. P x b' c') ea (subst (λ x. P a x c') eb (subst (λ x. P a b x) ec h))
