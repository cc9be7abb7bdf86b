-- The stays of the calls, by the table of the gate and the number in r9 (PSX-SPX, Kernel (BIOS), function summary).
use Rattle.std.specs.Prelude.{Option, Some, None}
use Rattle.psx_base.specs.declared.stop.Table.{Table}
use Rattle.psx_base.specs.declared.stop.Stop.TheVariants.{Unserved}
use Rattle.psx_base.specs.KernelState.{KernelState}
use Rattle.abs_kernel.specs.declared.calls.CallId.{CallId}
use Rattle.abs_kernel.specs.declared.calls.CallId.TheVariants.{A00, A02, A03, A04, A06, A08, A09, A0C, A0D, A0E, A0F, A10, A11, A13, A14, A15, A16, A17, A18, A19, A1A, A1B, A1C, A1D, A1E, A1F, A20, A21, A22, A23, A24, A25, A26, A27, A28, A29, A2A, A2B, A2C, A2D, A2E, A2F, A30, A33, A34, A37, A38, A39, A3A, A3B, A3C, A3D, A3E, A3F, A44, B02, B03, B04, B05, B06, B07, B08, B09, B0A, B0B, B0C, B0D, B0E, B0F, B10, B17, B20, B32, B34, B35, B36, B38, B3A, B3B, B3C, B3D, B3E, B3F, B54, C02, C03}
use Rattle.abs_kernel.specs.CallTable.{served_call}
use Rattle.abs_kernel.specs.Stay.{Stay, Halt}
use Rattle.abs_kernel.specs.Answered.{registers_of}
use Rattle.abs_kernel.specs.Exits.{exits}
use Rattle.abs_kernel.specs.Putchar.{putchar}
use Rattle.abs_kernel.specs.Puts.{puts}
use Rattle.abs_kernel.specs.Printf.{printf}
use Rattle.abs_kernel.specs.Getchar.{getchar}
use Rattle.abs_kernel.specs.Gets.{gets}
use Rattle.abs_kernel.specs.Getc.{getc}
use Rattle.abs_kernel.specs.ReadFile.{read}
use Rattle.abs_kernel.specs.Open.{open_file}
use Rattle.abs_kernel.specs.Close.{close}
use Rattle.abs_kernel.specs.Putc.{putc}
use Rattle.abs_kernel.specs.WriteFile.{write}
use Rattle.abs_kernel.specs.GetLastError.{get_last_error}
use Rattle.abs_kernel.specs.Strlen.{strlen}
use Rattle.abs_kernel.specs.Strcpy.{strcpy}
use Rattle.abs_kernel.specs.Strcat.{strcat}
use Rattle.abs_kernel.specs.Strncat.{strncat}
use Rattle.abs_kernel.specs.Strncpy.{strncpy}
use Rattle.abs_kernel.specs.Strpbrk.{strpbrk}
use Rattle.abs_kernel.specs.Strspn.{strspn}
use Rattle.abs_kernel.specs.Strcspn.{strcspn}
use Rattle.abs_kernel.specs.Strtok.{strtok}
use Rattle.abs_kernel.specs.Strstr.{strstr}
use Rattle.abs_kernel.specs.Abs.{abs}
use Rattle.abs_kernel.specs.Strtol.{strtol, atoi}
use Rattle.abs_kernel.specs.Toupper.{toupper}
use Rattle.abs_kernel.specs.Memcpy.{memcpy, bcopy}
use Rattle.abs_kernel.specs.Memset.{memset, bzero}
use Rattle.abs_kernel.specs.Memmove.{memmove}
use Rattle.abs_kernel.specs.Memcmp.{memcmp}
use Rattle.abs_kernel.specs.Strcmp.{strcmp, strncmp}
use Rattle.abs_kernel.specs.Strchr.{strchr}
use Rattle.abs_kernel.specs.Strrchr.{strrchr}
use Rattle.abs_kernel.specs.Tolower.{tolower}
use Rattle.abs_kernel.specs.Memchr.{memchr}
use Rattle.abs_kernel.specs.Rand.{rand}
use Rattle.abs_kernel.specs.Srand.{srand}
use Rattle.abs_kernel.specs.Jumps.{setjmp, longjmp}
use Rattle.abs_kernel.specs.FlushCache.{flush_cache}
use Rattle.abs_kernel.specs.OpenThread.{open_thread}
use Rattle.abs_kernel.specs.CloseThread.{close_thread}
use Rattle.abs_kernel.specs.ChangeThread.{change_thread}
use Rattle.abs_kernel.specs.InitTimer.{init_timer}
use Rattle.abs_kernel.specs.GetTimer.{get_timer}
use Rattle.abs_kernel.specs.EnableTimerIrq.{enable_timer_irq}
use Rattle.abs_kernel.specs.DisableTimerIrq.{disable_timer_irq}
use Rattle.abs_kernel.specs.RestartTimer.{restart_timer}
use Rattle.abs_kernel.specs.DeliverEvent.{deliver_event}
use Rattle.abs_kernel.specs.Returning.{return_from_exception}
use Rattle.abs_kernel.specs.OpenEvent.{open_event}
use Rattle.abs_kernel.specs.CloseEvent.{close_event}
use Rattle.abs_kernel.specs.WaitEvent.{wait_event}
use Rattle.abs_kernel.specs.TestEvent.{test_event}
use Rattle.abs_kernel.specs.EnableEvent.{enable_event}
use Rattle.abs_kernel.specs.DisableEvent.{disable_event}
use Rattle.abs_kernel.specs.UnDeliverEvent.{undeliver_event}
use Rattle.abs_kernel.specs.SysEnqIntRP.{sys_enq_int_rp}
use Rattle.abs_kernel.specs.SysDeqIntRP.{sys_deq_int_rp}
use Rattle.abs_kernel.specs.Malloc.{malloc}
use Rattle.abs_kernel.specs.Free.{free}
use Rattle.abs_kernel.specs.Calloc.{calloc}
use Rattle.abs_kernel.specs.Realloc.{realloc}
use Rattle.abs_kernel.specs.InitHeap.{init_heap}

-- each call's stay
abbrev pub call : CallId → KernelState → Stay
call A00 s = open_file s
call A02 s = read s
call A03 s = write s
call A04 s = close s
call A06 s = exits s
call A08 s = getc s
call A09 s = putc s
call A0C s = strtol s
call A0D s = strtol s
call A0E s = abs s
call A0F s = abs s
call A10 s = atoi s
call A11 s = atoi s
call A13 s = setjmp s
call A14 s = longjmp s
call A15 s = strcat s
call A16 s = strncat s
call A17 s = strcmp s
call A18 s = strncmp s
call A19 s = strcpy s
call A1A s = strncpy s
call A1B s = strlen s
call A1C s = strchr s
call A1D s = strrchr s
call A1E s = strchr s
call A1F s = strrchr s
call A20 s = strpbrk s
call A21 s = strspn s
call A22 s = strcspn s
call A23 s = strtok s
call A24 s = strstr s
call A25 s = toupper s
call A26 s = tolower s
call A27 s = bcopy s
call A28 s = bzero s
call A29 s = memcmp s
call A2A s = memcpy s
call A2B s = memset s
call A2C s = memmove s
call A2D s = memcmp s
call A2E s = memchr s
call A2F s = rand s
call A30 s = srand s
call A33 s = malloc s
call A34 s = free s
call A37 s = calloc s
call A38 s = realloc s
call A39 s = init_heap s
call A3A s = exits s
call A3B s = getchar s
call A3C s = putchar s
call A3D s = gets s
call A3E s = puts s
call A3F s = printf s
call A44 s = flush_cache s
call B02 s = init_timer s
call B03 s = get_timer s
call B04 s = enable_timer_irq s
call B05 s = disable_timer_irq s
call B06 s = restart_timer s
call B07 s = deliver_event s
call B08 s = open_event s
call B09 s = close_event s
call B0A s = wait_event s
call B0B s = test_event s
call B0C s = enable_event s
call B0D s = disable_event s
call B0E s = open_thread s
call B0F s = close_thread s
call B10 s = change_thread s
call B17 s = return_from_exception s
call B20 s = undeliver_event s
call B32 s = open_file s
call B34 s = read s
call B35 s = write s
call B36 s = close s
call B38 s = exits s
call B3A s = getc s
call B3B s = putc s
call B3C s = getchar s
call B3D s = putchar s
call B3E s = gets s
call B3F s = puts s
call B54 s = get_last_error s
call C02 s = sys_enq_int_rp s
call C03 s = sys_deq_int_rp s

-- a number without a row stops with its table, itself and r31
abbrev pub by_row : Table → Option CallId → KernelState → Stay
by_row table None s = Halt (Unserved table (registers_of s).r9 (registers_of s).r31) s.memory
by_row table (Some id) s = call id s

abbrev pub by_table : Table → KernelState → Stay
by_table table s = by_row table (served_call table (registers_of s).r9) s
