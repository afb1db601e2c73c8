-- The two readers: their states, steps and ends.
use Rattle.std.specs.Prelude.{◌≡◌, ℕ, ◌+◌, ◌≤◌, Bool, true, if◌then◌else◌, ◌&&◌, ◌||◌, List, length, take, drop, Some, None, Ok, Err, Option, Result, ◌==◌, nat_lt}
use Rattle.text.specs.declared.faults.StringFault.{StringFault}
use Rattle.text.specs.declared.faults.StringFault.TheVariants.{NoName, NoForm}
use Rattle.text.specs.declared.strings.Separator.{Separator}
use Rattle.text.specs.declared.strings.Separator.TheVariants.{Switch, Strong, Weak}
use Rattle.text.specs.declared.strings.State.{State}
use Rattle.text.specs.declared.strings.State.TheVariants.{Start, First, AfterQuestion, BeforeLast, Last}
use Rattle.text.specs.Names.{initial, inner, max_name_bytes}
use Rattle.text.specs.Machines.{read_from}
use Rattle.text.specs.Forms.{Form, plain, switch, strong, weak, Piece, whole}

-- a name may have c at this place
abbrev pub fits_name : ℕ → ℕ → Bool
fits_name at c = if at == 0 then initial c else (inner c && nat_lt at max_name_bytes)

-- the reader of names counts the bytes read
abbrev pub name_step : ℕ → ℕ → Option ℕ
name_step at c = if fits_name at c then Some (at + 1) else None

abbrev pub name_finish : ℕ → List ℕ → Result Piece StringFault
name_finish at t = if at == 0 then Err (NoName 0) else Ok (whole t)

abbrev pub read_name : List ℕ → Result Piece StringFault
read_name t = read_from name_step name_finish NoName t 0 0 t

-- the characters / ? :
abbrev pub slash : ℕ
slash = 47

abbrev pub question : ℕ
question = 63

abbrev pub colon : ℕ
colon = 58

-- c is the letter of the word dep at the place len, where dep says that those before it are there
abbrev pub spells_dep : Bool → ℕ → ℕ → Bool
spells_dep dep len c =
    dep && ((len == 0 && c == 100) || ((len == 1 && c == 101) || (len == 2 && c == 112)))

-- the state after the byte c, or none where no lawful string goes on so
abbrev pub step : State → ℕ → Option State
step Start c = if initial c then Some (First 1 (spells_dep true 0 c)) else None
step (First len dep) c =
    if inner c && nat_lt len max_name_bytes then Some (First (len + 1) (spells_dep dep len c))
    else if c == slash then Some (BeforeLast Strong len)
    else if c == question then Some (AfterQuestion len)
    else if c == colon && (dep && len == 3) then Some (BeforeLast Switch len)
    else None
step (AfterQuestion first_len) c = if c == slash then Some (BeforeLast Weak first_len) else None
step (BeforeLast separator first_len) c =
    if initial c then Some (Last separator first_len 1) else None
step (Last separator first_len len) c =
    if inner c && nat_lt len max_name_bytes then Some (Last separator first_len (len + 1)) else None

-- the piece of t from a place on, and the one before a place
abbrev pub piece_from : ℕ → List ℕ → Piece
piece_from at t = record { place = at; text = drop at t }

abbrev pub piece_before : ℕ → List ℕ → Piece
piece_before at t = record { place = 0; text = take at t }

-- what is answered where the string t ends
abbrev pub finish : State → List ℕ → Result (Form Piece) StringFault
finish Start t = Err (NoForm (length t))
finish (First len dep) t = Ok (plain (whole t))
finish (AfterQuestion first_len) t = Err (NoForm (length t))
finish (BeforeLast separator first_len) t = Err (NoForm (length t))
finish (Last Switch first_len len) t = Ok (switch (piece_from 4 t))
finish (Last Strong first_len len) t =
    Ok (strong (piece_before first_len t) (piece_from (first_len + 1) t))
finish (Last Weak first_len len) t =
    Ok (weak (piece_before first_len t) (piece_from (first_len + 2) t))

abbrev pub read_form : List ℕ → Result (Form Piece) StringFault
read_form t = read_from step finish NoForm t Start 0 t

-- the bytes that stand before the last name beside the first one
abbrev pub width : Separator → ℕ
width Switch = 1
width Strong = 1
width Weak = 2

-- a switch has the three letters of dep for its first name
abbrev pub Letters : Separator → ℕ → Type 0
Letters Switch first_len = first_len ≡ 3
Letters Strong first_len = Unit {0}
Letters Weak first_len = Unit {0}

-- after `at` bytes the pieces that a state speaks of lie in them
abbrev pub Room : State → ℕ → Type 0
Room Start at = Unit {0}
Room (First len dep) at = len ≤ at
Room (AfterQuestion first_len) at = first_len + 1 ≤ at
Room (BeforeLast separator first_len) at =
    (first_len + width separator ≤ at) × Letters separator first_len
Room (Last separator first_len len) at =
    (first_len + width separator ≤ at) × Letters separator first_len
