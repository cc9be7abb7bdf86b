-- The words of the crate's listings.
use Rattle.std.specs.Prelude.{ℕ, List, [], ◌∷◌}
use Rattle.kern_stay.specs.Words.{listing}
use Rattle.kern_stay.specs.declared.room.TheConstants.{ROOM_NODES}
use Rattle.kern_text.specs.declared.places.TheConstants.{STRLEN, ROOM, TOUPPER, TOLOWER, STRCPY, STRCAT, STRNCAT, STRNCPY, STRCMP, STRNCMP, STRCHR, STRRCHR, SKIP, STRPBRK, STRSPN, STRCSPN, STRTOK, STRSTR, ABS, BLANKS, PREFIX, DIGITS, STRTOL, ATOI}
use Rattle.kern_text.specs.declared.a1b_strlen.TheConstants as strlen
use Rattle.kern_text.specs.declared.a25_toupper.TheConstants as toupper
use Rattle.kern_text.specs.declared.a26_tolower.TheConstants as tolower
use Rattle.kern_text.specs.declared.a19_strcpy.TheConstants as strcpy
use Rattle.kern_text.specs.declared.a15_strcat.TheConstants as strcat
use Rattle.kern_text.specs.declared.a16_strncat.TheConstants as strncat
use Rattle.kern_text.specs.declared.a1a_strncpy.TheConstants as strncpy
use Rattle.kern_text.specs.declared.a17_strcmp.TheConstants as strcmp
use Rattle.kern_text.specs.declared.a18_strncmp.TheConstants as strncmp
use Rattle.kern_text.specs.declared.a1e_strchr.TheConstants as strchr
use Rattle.kern_text.specs.declared.a1f_strrchr.TheConstants as strrchr
use Rattle.kern_text.specs.declared.skip.TheConstants as skip
use Rattle.kern_text.specs.declared.a20_strpbrk.TheConstants as strpbrk
use Rattle.kern_text.specs.declared.a21_strspn.TheConstants as strspn
use Rattle.kern_text.specs.declared.a22_strcspn.TheConstants as strcspn
use Rattle.kern_text.specs.declared.a23_strtok.TheConstants as strtok
use Rattle.kern_text.specs.declared.a24_strstr.TheConstants as strstr
use Rattle.kern_text.specs.declared.a0e_abs.TheConstants as abs
use Rattle.kern_text.specs.declared.blanks.TheConstants as blanks
use Rattle.kern_text.specs.declared.prefix.TheConstants as prefix
use Rattle.kern_text.specs.declared.digits.TheConstants as digits
use Rattle.kern_text.specs.declared.a0d_strtol.TheConstants as strtol
use Rattle.kern_text.specs.declared.a10_atoi.TheConstants as atoi

-- in the order of their addresses
abbrev pub text_pieces : List (ℕ × List ℕ)
text_pieces =
    listing STRLEN strlen.NODES ∷ listing ROOM ROOM_NODES ∷ listing TOUPPER toupper.NODES ∷ listing TOLOWER tolower.NODES ∷ listing STRCPY strcpy.NODES ∷
    listing STRCAT strcat.NODES ∷ listing STRNCAT strncat.NODES ∷ listing STRNCPY strncpy.NODES ∷ listing STRCMP strcmp.NODES ∷ listing STRNCMP strncmp.NODES ∷
    listing STRCHR strchr.NODES ∷ listing STRRCHR strrchr.NODES ∷ listing SKIP skip.SKIP_NODES ∷ listing STRPBRK strpbrk.NODES ∷ listing STRSPN strspn.NODES ∷
    listing STRCSPN strcspn.NODES ∷ listing STRTOK strtok.NODES ∷ listing STRSTR strstr.NODES ∷ listing ABS abs.NODES ∷ listing BLANKS blanks.BLANKS_NODES ∷
    listing PREFIX prefix.PREFIX_NODES ∷ listing DIGITS digits.DIGITS_NODES ∷ listing STRTOL strtol.NODES ∷ listing ATOI atoi.NODES ∷ []
