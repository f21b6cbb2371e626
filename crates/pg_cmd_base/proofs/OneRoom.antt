-- The room comes to one thing.
use Rattle.std.proofs.Common.{◌≡◌, ℕ, cond, nat_lt, Result, Ok, Err, sym, ◌∙◌, ap}
use Rattle.std.proofs.lemmas.Bool.{lt-ltb, le-ltb}
use Rattle.pg_cmd_base.specs.Rooms.{TooMany, RoomFor, of_room, RoomDue}
use Rattle.pg_cmd_base.specs.Steps.{Settles, IsOne}
use Rattle.pg_cmd_base.proofs.OnlySteps.{Only, one-of, only-settles, lifted, only-as}

abbrev pub room_answer : ℕ → ℕ → Result ℕ TooMany
room_answer wanted free = cond (nat_lt free wanted) (Err (record { wanted = wanted; free = free })) (Ok wanted)

room-only : (wanted free : ℕ) (due : Result ℕ TooMany) → RoomFor wanted free due → room_answer wanted free ≡ due
room-only wanted free (Ok cells) h =
    ap (λ b. cond b (Err (record { wanted = wanted; free = free })) (Ok wanted)) (le-ltb free wanted h.0) ∙ ap (λ n. Ok n) (sym h.1)
room-only wanted free (Err why) h =
    ap (λ b. cond b (Err (record { wanted = wanted; free = free })) (Ok wanted)) (lt-ltb free wanted h.0) ∙ ap (λ n. Err n) (sym h.1)

pub only-room : (wanted free : ℕ) → Only (RoomDue wanted free) (lifted of_room (room_answer wanted free))
unfolding RoomDue
only-room wanted free = only-as of_room (Settles (RoomFor wanted free)) (room_answer wanted free) (only-settles (RoomFor wanted free) (room_answer wanted free) (room-only wanted free))

pub one-room : (wanted free : ℕ) → IsOne (RoomDue wanted free)
one-room wanted free = one-of (RoomDue wanted free) (lifted of_room (room_answer wanted free)) (only-room wanted free)
