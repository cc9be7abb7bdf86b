-- Each listing stands at its address, and serves its call.
use Rattle.std.proofs.Common.{[], refl, inl}
use Rattle.psx_base.specs.Memory.{Memory, word}
use Rattle.psx_flow.specs.Kernel.{kernel_words}
use Rattle.psx_flow.specs.Reaches.{ArePlaced}
use Rattle.abs_kernel.specs.Strlen.{strlen}
use Rattle.abs_kernel.specs.Toupper.{toupper}
use Rattle.abs_kernel.specs.Tolower.{tolower}
use Rattle.abs_kernel.specs.Strcpy.{strcpy}
use Rattle.abs_kernel.specs.Strcat.{strcat}
use Rattle.abs_kernel.specs.Strncat.{strncat}
use Rattle.abs_kernel.specs.Strncpy.{strncpy}
use Rattle.abs_kernel.specs.Strcmp.{strcmp, strncmp}
use Rattle.abs_kernel.specs.Strchr.{strchr}
use Rattle.abs_kernel.specs.Strrchr.{strrchr}
use Rattle.abs_kernel.specs.Strpbrk.{strpbrk}
use Rattle.abs_kernel.specs.Strspn.{strspn}
use Rattle.abs_kernel.specs.Strcspn.{strcspn}
use Rattle.abs_kernel.specs.Strtok.{strtok}
use Rattle.abs_kernel.specs.Strstr.{strstr}
use Rattle.abs_kernel.specs.Abs.{abs}
use Rattle.abs_kernel.specs.Strtol.{strtol, atoi}
use Rattle.kern_stay.specs.Words.{Stand}
use Rattle.kern_stay.specs.Doors.{IsServed, most_steps}
use Rattle.kern_stay.specs.Shared.{tree}
use Rattle.kern_stay.specs.declared.room.TheConstants.{ROOM_NODES}
use Rattle.kern_stay.proofs.Standing.{placed_by}
use Rattle.kern_stay.proofs.Serving.{served_by}
use Rattle.kern_text.specs.declared.places.TheConstants.{STRLEN, ROOM, TOUPPER, TOLOWER, STRCPY, STRCAT, STRNCAT, STRNCPY, STRCMP, STRNCMP, STRCHR, STRRCHR, SKIP, STRPBRK, STRSPN, STRCSPN, STRTOK, STRSTR, ABS, BLANKS, PREFIX, DIGITS, STRTOL, ATOI}
use Rattle.kern_text.specs.declared.a1b_strlen.TheConstants as strlen_is
use Rattle.kern_text.specs.declared.a25_toupper.TheConstants as toupper_is
use Rattle.kern_text.specs.declared.a26_tolower.TheConstants as tolower_is
use Rattle.kern_text.specs.declared.a19_strcpy.TheConstants as strcpy_is
use Rattle.kern_text.specs.declared.a15_strcat.TheConstants as strcat_is
use Rattle.kern_text.specs.declared.a16_strncat.TheConstants as strncat_is
use Rattle.kern_text.specs.declared.a1a_strncpy.TheConstants as strncpy_is
use Rattle.kern_text.specs.declared.a17_strcmp.TheConstants as strcmp_is
use Rattle.kern_text.specs.declared.a18_strncmp.TheConstants as strncmp_is
use Rattle.kern_text.specs.declared.a1e_strchr.TheConstants as strchr_is
use Rattle.kern_text.specs.declared.a1f_strrchr.TheConstants as strrchr_is
use Rattle.kern_text.specs.declared.skip.TheConstants as skip_is
use Rattle.kern_text.specs.declared.a20_strpbrk.TheConstants as strpbrk_is
use Rattle.kern_text.specs.declared.a21_strspn.TheConstants as strspn_is
use Rattle.kern_text.specs.declared.a22_strcspn.TheConstants as strcspn_is
use Rattle.kern_text.specs.declared.a23_strtok.TheConstants as strtok_is
use Rattle.kern_text.specs.declared.a24_strstr.TheConstants as strstr_is
use Rattle.kern_text.specs.declared.a0e_abs.TheConstants as abs_is
use Rattle.kern_text.specs.declared.blanks.TheConstants as blanks_is
use Rattle.kern_text.specs.declared.prefix.TheConstants as prefix_is
use Rattle.kern_text.specs.declared.digits.TheConstants as digits_is
use Rattle.kern_text.specs.declared.a0d_strtol.TheConstants as strtol_is
use Rattle.kern_text.specs.declared.a10_atoi.TheConstants as atoi_is
use Rattle.kern_text.specs.Own.{own}
use Rattle.kern_text.specs.SetOwn.{set_own}
use Rattle.kern_text.specs.NumberOwn.{number_own}
use Rattle.kern_text.specs.TextWords.{text_pieces}
use Rattle.kern_text.specs.TextLaws.{TextServes}
use Rattle.kern_text.proofs.A1bStrlen as of_strlen
use Rattle.kern_text.proofs.A25Toupper as of_toupper
use Rattle.kern_text.proofs.A26Tolower as of_tolower
use Rattle.kern_text.proofs.A19Strcpy as of_strcpy
use Rattle.kern_text.proofs.A15Strcat as of_strcat
use Rattle.kern_text.proofs.A16Strncat as of_strncat
use Rattle.kern_text.proofs.A1aStrncpy as of_strncpy
use Rattle.kern_text.proofs.A17Strcmp as of_strcmp
use Rattle.kern_text.proofs.A18Strncmp as of_strncmp
use Rattle.kern_text.proofs.A1eStrchr as of_strchr
use Rattle.kern_text.proofs.A1fStrrchr as of_strrchr
use Rattle.kern_text.proofs.A20Strpbrk as of_strpbrk
use Rattle.kern_text.proofs.A21Strspn as of_strspn
use Rattle.kern_text.proofs.A22Strcspn as of_strcspn
use Rattle.kern_text.proofs.A23Strtok as of_strtok
use Rattle.kern_text.proofs.A24Strstr as of_strstr
use Rattle.kern_text.proofs.A0eAbs as of_abs
use Rattle.kern_text.proofs.A0dStrtol as of_strtol
use Rattle.kern_text.proofs.A10Atoi as of_atoi

own_placed : (m : Memory) → Stand (word m) text_pieces → ArePlaced kernel_words m own
own_placed m r = (placed_by m ROOM (tree ROOM_NODES) refl refl refl refl (r.1.0), tt)

set_own_placed : (m : Memory) → Stand (word m) text_pieces → ArePlaced kernel_words m set_own
set_own_placed m r = (placed_by m ROOM (tree ROOM_NODES) refl refl refl refl (r.1.0), (placed_by m SKIP (tree skip_is.SKIP_NODES) refl refl refl refl (r.1.1.1.1.1.1.1.1.1.1.1.1.0), tt))

number_own_placed : (m : Memory) → Stand (word m) text_pieces → ArePlaced kernel_words m number_own
number_own_placed m r = (
  placed_by m ROOM (tree ROOM_NODES) refl refl refl refl (r.1.0),
  (placed_by m BLANKS (tree blanks_is.BLANKS_NODES) refl refl refl refl (r.1.1.1.1.1.1.1.1.1.1.1.1.1.1.1.1.1.1.1.0), (placed_by m PREFIX (tree prefix_is.PREFIX_NODES) refl refl refl refl (r.1.1.1.1.1.1.1.1.1.1.1.1.1.1.1.1.1.1.1.1.0), (placed_by m DIGITS (tree digits_is.DIGITS_NODES) refl refl refl refl (r.1.1.1.1.1.1.1.1.1.1.1.1.1.1.1.1.1.1.1.1.1.0), tt))),
)

strlen_served : (m : Memory) → Stand (word m) text_pieces → IsServed m most_steps strlen STRLEN
strlen_served m r = served_by m most_steps strlen STRLEN own (tree strlen_is.NODES) refl refl refl refl refl (own_placed m r) (r.0) of_strlen.serves

toupper_served : (m : Memory) → Stand (word m) text_pieces → IsServed m most_steps toupper TOUPPER
toupper_served m r = served_by m most_steps toupper TOUPPER [] (tree toupper_is.NODES) refl refl refl refl refl tt (r.1.1.0) of_toupper.serves

tolower_served : (m : Memory) → Stand (word m) text_pieces → IsServed m most_steps tolower TOLOWER
tolower_served m r = served_by m most_steps tolower TOLOWER [] (tree tolower_is.NODES) refl refl refl refl refl tt (r.1.1.1.0) of_tolower.serves

strcpy_served : (m : Memory) → Stand (word m) text_pieces → IsServed m most_steps strcpy STRCPY
strcpy_served m r = served_by m most_steps strcpy STRCPY own (tree strcpy_is.NODES) refl refl refl refl refl (own_placed m r) (r.1.1.1.1.0) of_strcpy.serves

strcat_served : (m : Memory) → Stand (word m) text_pieces → IsServed m most_steps strcat STRCAT
strcat_served m r = served_by m most_steps strcat STRCAT own (tree strcat_is.NODES) refl refl refl refl refl (own_placed m r) (r.1.1.1.1.1.0) of_strcat.serves

strncat_served : (m : Memory) → Stand (word m) text_pieces → IsServed m most_steps strncat STRNCAT
strncat_served m r = served_by m most_steps strncat STRNCAT own (tree strncat_is.NODES) refl refl refl refl refl (own_placed m r) (r.1.1.1.1.1.1.0) of_strncat.serves

strncpy_served : (m : Memory) → Stand (word m) text_pieces → IsServed m most_steps strncpy STRNCPY
strncpy_served m r = served_by m most_steps strncpy STRNCPY own (tree strncpy_is.NODES) refl refl refl refl refl (own_placed m r) (r.1.1.1.1.1.1.1.0) of_strncpy.serves

strcmp_served : (m : Memory) → Stand (word m) text_pieces → IsServed m most_steps strcmp STRCMP
strcmp_served m r = served_by m most_steps strcmp STRCMP own (tree strcmp_is.NODES) refl refl refl refl refl (own_placed m r) (r.1.1.1.1.1.1.1.1.0) of_strcmp.serves

strncmp_served : (m : Memory) → Stand (word m) text_pieces → IsServed m most_steps strncmp STRNCMP
strncmp_served m r = served_by m most_steps strncmp STRNCMP own (tree strncmp_is.NODES) refl refl refl refl refl (own_placed m r) (r.1.1.1.1.1.1.1.1.1.0) of_strncmp.serves

strchr_served : (m : Memory) → Stand (word m) text_pieces → IsServed m most_steps strchr STRCHR
strchr_served m r = served_by m most_steps strchr STRCHR own (tree strchr_is.NODES) refl refl refl refl refl (own_placed m r) (r.1.1.1.1.1.1.1.1.1.1.0) of_strchr.serves

strrchr_served : (m : Memory) → Stand (word m) text_pieces → IsServed m most_steps strrchr STRRCHR
strrchr_served m r = served_by m most_steps strrchr STRRCHR own (tree strrchr_is.NODES) refl refl refl refl refl (own_placed m r) (r.1.1.1.1.1.1.1.1.1.1.1.0) of_strrchr.serves

strpbrk_served : (m : Memory) → Stand (word m) text_pieces → IsServed m most_steps strpbrk STRPBRK
strpbrk_served m r = served_by m most_steps strpbrk STRPBRK set_own (tree strpbrk_is.NODES) refl refl refl refl refl (set_own_placed m r) (r.1.1.1.1.1.1.1.1.1.1.1.1.1.0) of_strpbrk.serves

strspn_served : (m : Memory) → Stand (word m) text_pieces → IsServed m most_steps strspn STRSPN
strspn_served m r = served_by m most_steps strspn STRSPN set_own (tree strspn_is.NODES) refl refl refl refl refl (set_own_placed m r) (r.1.1.1.1.1.1.1.1.1.1.1.1.1.1.0) of_strspn.serves

strcspn_served : (m : Memory) → Stand (word m) text_pieces → IsServed m most_steps strcspn STRCSPN
strcspn_served m r = served_by m most_steps strcspn STRCSPN set_own (tree strcspn_is.NODES) refl refl refl refl refl (set_own_placed m r) (r.1.1.1.1.1.1.1.1.1.1.1.1.1.1.1.0) of_strcspn.serves

strtok_served : (m : Memory) → Stand (word m) text_pieces → IsServed m most_steps strtok STRTOK
strtok_served m r = served_by m most_steps strtok STRTOK set_own (tree strtok_is.NODES) refl refl refl refl refl (set_own_placed m r) (r.1.1.1.1.1.1.1.1.1.1.1.1.1.1.1.1.0) of_strtok.serves

strstr_served : (m : Memory) → Stand (word m) text_pieces → IsServed m most_steps strstr STRSTR
strstr_served m r = served_by m most_steps strstr STRSTR own (tree strstr_is.NODES) refl refl refl refl refl (own_placed m r) (r.1.1.1.1.1.1.1.1.1.1.1.1.1.1.1.1.1.0) of_strstr.serves

abs_served : (m : Memory) → Stand (word m) text_pieces → IsServed m most_steps abs ABS
abs_served m r = served_by m most_steps abs ABS [] (tree abs_is.NODES) refl refl refl refl refl tt (r.1.1.1.1.1.1.1.1.1.1.1.1.1.1.1.1.1.1.0) of_abs.serves

strtol_served : (m : Memory) → Stand (word m) text_pieces → IsServed m most_steps strtol STRTOL
strtol_served m r = served_by m most_steps strtol STRTOL number_own (tree strtol_is.NODES) refl refl refl refl refl (number_own_placed m r) (r.1.1.1.1.1.1.1.1.1.1.1.1.1.1.1.1.1.1.1.1.1.1.0) of_strtol.serves

atoi_served : (m : Memory) → Stand (word m) text_pieces → IsServed m most_steps atoi ATOI
atoi_served m r = served_by m most_steps atoi ATOI number_own (tree atoi_is.NODES) refl refl refl refl refl (number_own_placed m r) (r.1.1.1.1.1.1.1.1.1.1.1.1.1.1.1.1.1.1.1.1.1.1.1.0) of_atoi.serves

pub text_serves : TextServes
text_serves m r = (
  inl (strlen_served m r),
  (
    inl (toupper_served m r),
    (
      inl (tolower_served m r),
      (
        inl (strcpy_served m r),
        (
          inl (strcat_served m r),
          (
            inl (strncat_served m r),
            (
              inl (strncpy_served m r),
              (
                inl (strcmp_served m r),
                (
                  inl (strncmp_served m r),
                  (
                    inl (strchr_served m r),
                    (
                      inl (strchr_served m r),
                      (
                        inl (strrchr_served m r),
                        (inl (strrchr_served m r), (inl (strpbrk_served m r), (inl (strspn_served m r), (inl (strcspn_served m r), (inl (strtok_served m r), (inl (strstr_served m r), (inl (abs_served m r), (inl (abs_served m r), (inl (strtol_served m r), (inl (strtol_served m r), (inl (atoi_served m r), (inl (atoi_served m r), tt)))))))))))),
                      ),
                    ),
                  ),
                ),
              ),
            ),
          ),
        ),
      ),
    ),
  ),
)
