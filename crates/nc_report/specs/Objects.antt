-- Verdicts as JSON objects (RFC 8259), each on a line of its own.
use Rattle.std.specs.Prelude.{ℕ, List, [], ◌∷◌, ◌++◌, All, Contains, codes, drop, Option, Some, None}
use Rattle.std.specs.Fmt.{decimal}
use Rattle.nc_vet.specs.declared.fault.VetFault.{VetFault}
use Rattle.nc_output.specs.Verdicts.{address_digits, fault_name, place_of}
use Rattle.nc_output.specs.Strings.{string_of}

-- The kind of a text of JSON: a whole value; or members of an object, which have these names, or elements of an array. Each
-- member and each element stands after a comma.
pub data Part : Type 0 where
  Whole : Part
  InObject : List (List ℕ) → Part
  InArray : Part

-- members as an object, and elements as an array: without the first comma, and in braces or brackets
abbrev pub object_of : List ℕ → List ℕ
object_of members = codes "{" ++ (drop 1 members ++ codes "}")

abbrev pub array_of : List ℕ → List ℕ
array_of elements = codes "[" ++ (drop 1 elements ++ codes "]")

-- a member with this name and this value, after a comma
abbrev pub member : List ℕ → List ℕ → List ℕ
member name value = codes "," ++ (string_of name ++ (codes ":" ++ value))

-- The text is JSON, without spaces: strings, and objects and arrays of them. The members of an object have different names. Each
-- quotation mark and each brace that isn't escaped belongs to the form of the text, whatever bytes its strings have.
pub data IsJson : Part → List ℕ → Type 0 where
  Quoted : (bytes : List ℕ) → IsJson Whole (string_of bytes)
  Braced : {names : List (List ℕ)} {text : List ℕ} → IsJson (InObject names) text → IsJson Whole (object_of text)
  Bracketed : {text : List ℕ} → IsJson InArray text → IsJson Whole (array_of text)
  NoMembers : IsJson (InObject []) []
  Member : {names : List (List ℕ)} {text value : List ℕ} → IsJson (InObject names) text → (name : List ℕ) → ¬ Contains names name
      → IsJson Whole value → IsJson (InObject (name ∷ names)) (text ++ member name value)
  NoElements : IsJson InArray []
  Element : {text value : List ℕ} → IsJson InArray text → IsJson Whole value → IsJson InArray (text ++ (codes "," ++ value))

-- members of an object with different names, each of them one of these
abbrev pub AreMembers : List (List ℕ) → List ℕ → Type 0
AreMembers among text = (names : List (List ℕ)) × All (Contains among) names × IsJson (InObject names) text

-- the first member: the name of a file
abbrev pub file_member : List ℕ → List ℕ
file_member name = codes "{\"file\":" ++ string_of name

-- a later member whose value is a string; the value of a `number_member` is a number
abbrev pub string_member : List ℕ → List ℕ → List ℕ
string_member name value = codes "," ++ (string_of name ++ (codes ":" ++ string_of value))

abbrev pub number_member : List ℕ → ℕ → List ℕ
number_member name value = codes "," ++ (string_of name ++ (codes ":" ++ decimal value))

-- the member for an address, if there is one
abbrev pub at_member : Option ℕ → List ℕ
at_member None = []
at_member (Some at) = string_member (codes "at") (address_digits at)

-- the first members of the object for a source that is accepted
abbrev pub accepted_members : ℕ → List ℕ → ℕ → ℕ → List ℕ
accepted_members base name bytes instructions =
    file_member name ++ (string_member (codes "address") (address_digits base) ++ (string_member (codes "verdict") (codes "ok")
    ++ (number_member (codes "bytes") bytes ++ number_member (codes "instructions") instructions)))

-- the first members of the object for a source that is refused: its name and address, the verdict, the fault, and the fault's
-- address if it has one
abbrev pub refused_members : ℕ → List ℕ → VetFault → List ℕ
refused_members base name fault =
    file_member name ++ (string_member (codes "address") (address_digits base) ++ (string_member (codes "verdict") (codes "refused")
    ++ (string_member (codes "fault") (fault_name fault) ++ at_member (place_of fault))))

-- the beginning of the object for one of several faults: its name and its address
abbrev pub fault_object : VetFault → List ℕ
fault_object fault = codes "{\"fault\":" ++ (string_of (fault_name fault) ++ at_member (place_of fault))

-- the object for a file that is refused before any of it is judged: its name, the fault, and what the fault means
abbrev pub file_object : List ℕ → List ℕ → List ℕ → List ℕ
file_object name fault meaning =
    file_member name ++ (string_member (codes "verdict") (codes "refused")
    ++ (string_member (codes "fault") fault ++ (string_member (codes "meaning") meaning ++ codes "}")))
