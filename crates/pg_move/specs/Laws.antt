-- What holds of saved texts, and of guests that move.
use Rattle.std.specs.Prelude.{◌≡◌, ℕ, ◌≤◌, List, length, Some, slice_get, Ok}
use Rattle.pg_word.specs.Shape.{IsShape}
use Rattle.pg_word.specs.declared.shape.Shape.{Shape}
use Rattle.pg_ast.specs.declared.tree.Desc.{Desc}
use Rattle.pg_lang_meaning.specs.States.{State, IsState, shape_of}
use Rattle.pg_type.specs.Agreeing.{Agree}
use Rattle.pg_hw.specs.Machinery.{Machinery}
use Rattle.pg_mon_control.specs.declared.guest.Guest.{Guest}
use Rattle.pg_mon_control.specs.Guests.{virtuals}
use Rattle.pg_mon_control.specs.Admitting.{Kept, StateTaken}
use Rattle.pg_move.specs.Texts.{SavedGuest, IsSaved, saved_text, room_of}
use Rattle.pg_move.specs.Reading.{saved_due}

-- a text is within the room for its size
abbrev pub SavedTextsHaveRoom : Type 0
SavedTextsHaveRoom =
    (shape : Shape) (g : SavedGuest) → IsShape shape → IsSaved shape g →
    length (saved_text shape g.steps g.state) ≤ room_of shape (length g.state.cells)

-- the text of what is saved says just that
abbrev pub SavedTextsReadBack : Type 0
SavedTextsReadBack =
    (shape : Shape) (g : SavedGuest) → IsShape shape → IsSaved shape g →
    saved_due shape (saved_text shape g.steps g.state) ≡ Ok g

-- bytes that are not refused are the text of what they say, which is in range
abbrev pub ReadTextsAreSpelled : Type 0
ReadTextsAreSpelled =
    (shape : Shape) (bytes : List ℕ) (g : SavedGuest) → saved_due shape bytes ≡ Ok g →
    IsSaved shape g × (bytes ≡ saved_text shape g.steps g.state)

-- the state of a guest is one of each machine that agrees and is large enough for it
abbrev pub CapturedStatesAreStates : Type 0
CapturedStatesAreStates =
    (d e : Desc) (s : State) → Agree d e → IsState d s → length s.cells ≤ e.size → IsState e s

-- what is in range for a description's shape has a state of its machine, and the other way round
abbrev pub SavedStatesAreStates : Type 0
SavedStatesAreStates =
    (d : Desc) (g : SavedGuest) → IsSaved (shape_of d) g → IsState d g.state

-- a guest that was captured at a state, and adopted elsewhere, stands there at that state, behind all guests that were there
abbrev pub AdoptedGuestsGoOn : Type 0
AdoptedGuestsGoOn =
    (cells : List ℕ) (gs : List Guest) (k : ℕ) (s : State) (before after : Kept) (old new : Machinery) →
    slice_get (virtuals cells gs) k ≡ Some s → StateTaken s before after old new →
    slice_get (virtuals new.state.cells after.guests) (length before.guests) ≡ slice_get (virtuals cells gs) k
