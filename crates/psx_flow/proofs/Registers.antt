-- A register read and written by its number, handed on: so that each state is a record written out.
use Rattle.std.specs.Prelude.{ℕ, zero, suc}
use Rattle.psx_base.specs.Registers.{Registers, register, with_register}

abbrev pub read_then : Registers → ℕ → (ℕ → Type 0) → Type 0
read_then c zero k = k 0
read_then c (suc zero) k = k c.r1
read_then c (suc (suc zero)) k = k c.r2
read_then c (suc (suc (suc zero))) k = k c.r3
read_then c (suc (suc (suc (suc zero)))) k = k c.r4
read_then c (suc (suc (suc (suc (suc zero))))) k = k c.r5
read_then c (suc (suc (suc (suc (suc (suc zero)))))) k = k c.r6
read_then c (suc (suc (suc (suc (suc (suc (suc zero))))))) k = k c.r7
read_then c (suc (suc (suc (suc (suc (suc (suc (suc zero)))))))) k = k c.r8
read_then c (suc (suc (suc (suc (suc (suc (suc (suc (suc zero))))))))) k = k c.r9
read_then c (suc (suc (suc (suc (suc (suc (suc (suc (suc (suc zero)))))))))) k = k c.r10
read_then c (suc (suc (suc (suc (suc (suc (suc (suc (suc (suc (suc zero))))))))))) k = k c.r11
read_then c (suc (suc (suc (suc (suc (suc (suc (suc (suc (suc (suc (suc zero)))))))))))) k = k c.r12
read_then c (suc (suc (suc (suc (suc (suc (suc (suc (suc (suc (suc (suc (suc zero))))))))))))) k = k c.r13
read_then c (suc (suc (suc (suc (suc (suc (suc (suc (suc (suc (suc (suc (suc (suc zero)))))))))))))) k = k c.r14
read_then c (suc (suc (suc (suc (suc (suc (suc (suc (suc (suc (suc (suc (suc (suc (suc zero))))))))))))))) k = k c.r15
read_then c (suc (suc (suc (suc (suc (suc (suc (suc (suc (suc (suc (suc (suc (suc (suc (suc zero)))))))))))))))) k = k c.r16
read_then c (suc (suc (suc (suc (suc (suc (suc (suc (suc (suc (suc (suc (suc (suc (suc (suc (suc zero))))))))))))))))) k = k c.r17
read_then c (suc (suc (suc (suc (suc (suc (suc (suc (suc (suc (suc (suc (suc (suc (suc (suc (suc (suc zero)))))))))))))))))) k = k c.r18
read_then c (suc (suc (suc (suc (suc (suc (suc (suc (suc (suc (suc (suc (suc (suc (suc (suc (suc (suc (suc zero))))))))))))))))))) k = k c.r19
read_then c (suc (suc (suc (suc (suc (suc (suc (suc (suc (suc (suc (suc (suc (suc (suc (suc (suc (suc (suc (suc zero)))))))))))))))))))) k = k c.r20
read_then c (suc (suc (suc (suc (suc (suc (suc (suc (suc (suc (suc (suc (suc (suc (suc (suc (suc (suc (suc (suc (suc zero))))))))))))))))))))) k = k c.r21
read_then c (suc (suc (suc (suc (suc (suc (suc (suc (suc (suc (suc (suc (suc (suc (suc (suc (suc (suc (suc (suc (suc (suc zero)))))))))))))))))))))) k = k c.r22
read_then c (suc (suc (suc (suc (suc (suc (suc (suc (suc (suc (suc (suc (suc (suc (suc (suc (suc (suc (suc (suc (suc (suc (suc zero))))))))))))))))))))))) k = k c.r23
read_then c (suc (suc (suc (suc (suc (suc (suc (suc (suc (suc (suc (suc (suc (suc (suc (suc (suc (suc (suc (suc (suc (suc (suc (suc zero)))))))))))))))))))))))) k = k c.r24
read_then c (suc (suc (suc (suc (suc (suc (suc (suc (suc (suc (suc (suc (suc (suc (suc (suc (suc (suc (suc (suc (suc (suc (suc (suc (suc zero))))))))))))))))))))))))) k = k c.r25
read_then c (suc (suc (suc (suc (suc (suc (suc (suc (suc (suc (suc (suc (suc (suc (suc (suc (suc (suc (suc (suc (suc (suc (suc (suc (suc (suc zero)))))))))))))))))))))))))) k = k c.r26
read_then c (suc (suc (suc (suc (suc (suc (suc (suc (suc (suc (suc (suc (suc (suc (suc (suc (suc (suc (suc (suc (suc (suc (suc (suc (suc (suc (suc zero))))))))))))))))))))))))))) k = k c.r27
read_then c (suc (suc (suc (suc (suc (suc (suc (suc (suc (suc (suc (suc (suc (suc (suc (suc (suc (suc (suc (suc (suc (suc (suc (suc (suc (suc (suc (suc zero)))))))))))))))))))))))))))) k = k c.r28
read_then c (suc (suc (suc (suc (suc (suc (suc (suc (suc (suc (suc (suc (suc (suc (suc (suc (suc (suc (suc (suc (suc (suc (suc (suc (suc (suc (suc (suc (suc zero))))))))))))))))))))))))))))) k = k c.r29
read_then c (suc (suc (suc (suc (suc (suc (suc (suc (suc (suc (suc (suc (suc (suc (suc (suc (suc (suc (suc (suc (suc (suc (suc (suc (suc (suc (suc (suc (suc (suc zero)))))))))))))))))))))))))))))) k = k c.r30
read_then c (suc (suc (suc (suc (suc (suc (suc (suc (suc (suc (suc (suc (suc (suc (suc (suc (suc (suc (suc (suc (suc (suc (suc (suc (suc (suc (suc (suc (suc (suc (suc zero))))))))))))))))))))))))))))))) k = k c.r31
read_then c (suc (suc (suc (suc (suc (suc (suc (suc (suc (suc (suc (suc (suc (suc (suc (suc (suc (suc (suc (suc (suc (suc (suc (suc (suc (suc (suc (suc (suc (suc (suc (suc n)))))))))))))))))))))))))))))))) k = k (register c (suc (suc (suc (suc (suc (suc (suc (suc (suc (suc (suc (suc (suc (suc (suc (suc (suc (suc (suc (suc (suc (suc (suc (suc (suc (suc (suc (suc (suc (suc (suc (suc n)))))))))))))))))))))))))))))))))

abbrev pub write_then : Registers → ℕ → ℕ → (Registers → Type 0) → Type 0
write_then c zero v k = k c
write_then c (suc zero) v k = k (record c { r1 = v })
write_then c (suc (suc zero)) v k = k (record c { r2 = v })
write_then c (suc (suc (suc zero))) v k = k (record c { r3 = v })
write_then c (suc (suc (suc (suc zero)))) v k = k (record c { r4 = v })
write_then c (suc (suc (suc (suc (suc zero))))) v k = k (record c { r5 = v })
write_then c (suc (suc (suc (suc (suc (suc zero)))))) v k = k (record c { r6 = v })
write_then c (suc (suc (suc (suc (suc (suc (suc zero))))))) v k = k (record c { r7 = v })
write_then c (suc (suc (suc (suc (suc (suc (suc (suc zero)))))))) v k = k (record c { r8 = v })
write_then c (suc (suc (suc (suc (suc (suc (suc (suc (suc zero))))))))) v k = k (record c { r9 = v })
write_then c (suc (suc (suc (suc (suc (suc (suc (suc (suc (suc zero)))))))))) v k = k (record c { r10 = v })
write_then c (suc (suc (suc (suc (suc (suc (suc (suc (suc (suc (suc zero))))))))))) v k = k (record c { r11 = v })
write_then c (suc (suc (suc (suc (suc (suc (suc (suc (suc (suc (suc (suc zero)))))))))))) v k = k (record c { r12 = v })
write_then c (suc (suc (suc (suc (suc (suc (suc (suc (suc (suc (suc (suc (suc zero))))))))))))) v k = k (record c { r13 = v })
write_then c (suc (suc (suc (suc (suc (suc (suc (suc (suc (suc (suc (suc (suc (suc zero)))))))))))))) v k = k (record c { r14 = v })
write_then c (suc (suc (suc (suc (suc (suc (suc (suc (suc (suc (suc (suc (suc (suc (suc zero))))))))))))))) v k = k (record c { r15 = v })
write_then c (suc (suc (suc (suc (suc (suc (suc (suc (suc (suc (suc (suc (suc (suc (suc (suc zero)))))))))))))))) v k = k (record c { r16 = v })
write_then c (suc (suc (suc (suc (suc (suc (suc (suc (suc (suc (suc (suc (suc (suc (suc (suc (suc zero))))))))))))))))) v k = k (record c { r17 = v })
write_then c (suc (suc (suc (suc (suc (suc (suc (suc (suc (suc (suc (suc (suc (suc (suc (suc (suc (suc zero)))))))))))))))))) v k = k (record c { r18 = v })
write_then c (suc (suc (suc (suc (suc (suc (suc (suc (suc (suc (suc (suc (suc (suc (suc (suc (suc (suc (suc zero))))))))))))))))))) v k = k (record c { r19 = v })
write_then c (suc (suc (suc (suc (suc (suc (suc (suc (suc (suc (suc (suc (suc (suc (suc (suc (suc (suc (suc (suc zero)))))))))))))))))))) v k = k (record c { r20 = v })
write_then c (suc (suc (suc (suc (suc (suc (suc (suc (suc (suc (suc (suc (suc (suc (suc (suc (suc (suc (suc (suc (suc zero))))))))))))))))))))) v k = k (record c { r21 = v })
write_then c (suc (suc (suc (suc (suc (suc (suc (suc (suc (suc (suc (suc (suc (suc (suc (suc (suc (suc (suc (suc (suc (suc zero)))))))))))))))))))))) v k = k (record c { r22 = v })
write_then c (suc (suc (suc (suc (suc (suc (suc (suc (suc (suc (suc (suc (suc (suc (suc (suc (suc (suc (suc (suc (suc (suc (suc zero))))))))))))))))))))))) v k = k (record c { r23 = v })
write_then c (suc (suc (suc (suc (suc (suc (suc (suc (suc (suc (suc (suc (suc (suc (suc (suc (suc (suc (suc (suc (suc (suc (suc (suc zero)))))))))))))))))))))))) v k = k (record c { r24 = v })
write_then c (suc (suc (suc (suc (suc (suc (suc (suc (suc (suc (suc (suc (suc (suc (suc (suc (suc (suc (suc (suc (suc (suc (suc (suc (suc zero))))))))))))))))))))))))) v k = k (record c { r25 = v })
write_then c (suc (suc (suc (suc (suc (suc (suc (suc (suc (suc (suc (suc (suc (suc (suc (suc (suc (suc (suc (suc (suc (suc (suc (suc (suc (suc zero)))))))))))))))))))))))))) v k = k (record c { r26 = v })
write_then c (suc (suc (suc (suc (suc (suc (suc (suc (suc (suc (suc (suc (suc (suc (suc (suc (suc (suc (suc (suc (suc (suc (suc (suc (suc (suc (suc zero))))))))))))))))))))))))))) v k = k (record c { r27 = v })
write_then c (suc (suc (suc (suc (suc (suc (suc (suc (suc (suc (suc (suc (suc (suc (suc (suc (suc (suc (suc (suc (suc (suc (suc (suc (suc (suc (suc (suc zero)))))))))))))))))))))))))))) v k = k (record c { r28 = v })
write_then c (suc (suc (suc (suc (suc (suc (suc (suc (suc (suc (suc (suc (suc (suc (suc (suc (suc (suc (suc (suc (suc (suc (suc (suc (suc (suc (suc (suc (suc zero))))))))))))))))))))))))))))) v k = k (record c { r29 = v })
write_then c (suc (suc (suc (suc (suc (suc (suc (suc (suc (suc (suc (suc (suc (suc (suc (suc (suc (suc (suc (suc (suc (suc (suc (suc (suc (suc (suc (suc (suc (suc zero)))))))))))))))))))))))))))))) v k = k (record c { r30 = v })
write_then c (suc (suc (suc (suc (suc (suc (suc (suc (suc (suc (suc (suc (suc (suc (suc (suc (suc (suc (suc (suc (suc (suc (suc (suc (suc (suc (suc (suc (suc (suc (suc zero))))))))))))))))))))))))))))))) v k = k (record c { r31 = v })
write_then c (suc (suc (suc (suc (suc (suc (suc (suc (suc (suc (suc (suc (suc (suc (suc (suc (suc (suc (suc (suc (suc (suc (suc (suc (suc (suc (suc (suc (suc (suc (suc (suc n)))))))))))))))))))))))))))))))) v k = k (with_register c (suc (suc (suc (suc (suc (suc (suc (suc (suc (suc (suc (suc (suc (suc (suc (suc (suc (suc (suc (suc (suc (suc (suc (suc (suc (suc (suc (suc (suc (suc (suc (suc n)))))))))))))))))))))))))))))))) v)

pub read_is : (c : Registers) (n : ℕ) (k : ℕ → Type 0) → read_then c n k → k (register c n)
read_is c zero k h = h
read_is c (suc zero) k h = h
read_is c (suc (suc zero)) k h = h
read_is c (suc (suc (suc zero))) k h = h
read_is c (suc (suc (suc (suc zero)))) k h = h
read_is c (suc (suc (suc (suc (suc zero))))) k h = h
read_is c (suc (suc (suc (suc (suc (suc zero)))))) k h = h
read_is c (suc (suc (suc (suc (suc (suc (suc zero))))))) k h = h
read_is c (suc (suc (suc (suc (suc (suc (suc (suc zero)))))))) k h = h
read_is c (suc (suc (suc (suc (suc (suc (suc (suc (suc zero))))))))) k h = h
read_is c (suc (suc (suc (suc (suc (suc (suc (suc (suc (suc zero)))))))))) k h = h
read_is c (suc (suc (suc (suc (suc (suc (suc (suc (suc (suc (suc zero))))))))))) k h = h
read_is c (suc (suc (suc (suc (suc (suc (suc (suc (suc (suc (suc (suc zero)))))))))))) k h = h
read_is c (suc (suc (suc (suc (suc (suc (suc (suc (suc (suc (suc (suc (suc zero))))))))))))) k h = h
read_is c (suc (suc (suc (suc (suc (suc (suc (suc (suc (suc (suc (suc (suc (suc zero)))))))))))))) k h = h
read_is c (suc (suc (suc (suc (suc (suc (suc (suc (suc (suc (suc (suc (suc (suc (suc zero))))))))))))))) k h = h
read_is c (suc (suc (suc (suc (suc (suc (suc (suc (suc (suc (suc (suc (suc (suc (suc (suc zero)))))))))))))))) k h = h
read_is c (suc (suc (suc (suc (suc (suc (suc (suc (suc (suc (suc (suc (suc (suc (suc (suc (suc zero))))))))))))))))) k h = h
read_is c (suc (suc (suc (suc (suc (suc (suc (suc (suc (suc (suc (suc (suc (suc (suc (suc (suc (suc zero)))))))))))))))))) k h = h
read_is c (suc (suc (suc (suc (suc (suc (suc (suc (suc (suc (suc (suc (suc (suc (suc (suc (suc (suc (suc zero))))))))))))))))))) k h = h
read_is c (suc (suc (suc (suc (suc (suc (suc (suc (suc (suc (suc (suc (suc (suc (suc (suc (suc (suc (suc (suc zero)))))))))))))))))))) k h = h
read_is c (suc (suc (suc (suc (suc (suc (suc (suc (suc (suc (suc (suc (suc (suc (suc (suc (suc (suc (suc (suc (suc zero))))))))))))))))))))) k h = h
read_is c (suc (suc (suc (suc (suc (suc (suc (suc (suc (suc (suc (suc (suc (suc (suc (suc (suc (suc (suc (suc (suc (suc zero)))))))))))))))))))))) k h = h
read_is c (suc (suc (suc (suc (suc (suc (suc (suc (suc (suc (suc (suc (suc (suc (suc (suc (suc (suc (suc (suc (suc (suc (suc zero))))))))))))))))))))))) k h = h
read_is c (suc (suc (suc (suc (suc (suc (suc (suc (suc (suc (suc (suc (suc (suc (suc (suc (suc (suc (suc (suc (suc (suc (suc (suc zero)))))))))))))))))))))))) k h = h
read_is c (suc (suc (suc (suc (suc (suc (suc (suc (suc (suc (suc (suc (suc (suc (suc (suc (suc (suc (suc (suc (suc (suc (suc (suc (suc zero))))))))))))))))))))))))) k h = h
read_is c (suc (suc (suc (suc (suc (suc (suc (suc (suc (suc (suc (suc (suc (suc (suc (suc (suc (suc (suc (suc (suc (suc (suc (suc (suc (suc zero)))))))))))))))))))))))))) k h = h
read_is c (suc (suc (suc (suc (suc (suc (suc (suc (suc (suc (suc (suc (suc (suc (suc (suc (suc (suc (suc (suc (suc (suc (suc (suc (suc (suc (suc zero))))))))))))))))))))))))))) k h = h
read_is c (suc (suc (suc (suc (suc (suc (suc (suc (suc (suc (suc (suc (suc (suc (suc (suc (suc (suc (suc (suc (suc (suc (suc (suc (suc (suc (suc (suc zero)))))))))))))))))))))))))))) k h = h
read_is c (suc (suc (suc (suc (suc (suc (suc (suc (suc (suc (suc (suc (suc (suc (suc (suc (suc (suc (suc (suc (suc (suc (suc (suc (suc (suc (suc (suc (suc zero))))))))))))))))))))))))))))) k h = h
read_is c (suc (suc (suc (suc (suc (suc (suc (suc (suc (suc (suc (suc (suc (suc (suc (suc (suc (suc (suc (suc (suc (suc (suc (suc (suc (suc (suc (suc (suc (suc zero)))))))))))))))))))))))))))))) k h = h
read_is c (suc (suc (suc (suc (suc (suc (suc (suc (suc (suc (suc (suc (suc (suc (suc (suc (suc (suc (suc (suc (suc (suc (suc (suc (suc (suc (suc (suc (suc (suc (suc zero))))))))))))))))))))))))))))))) k h = h
read_is c (suc (suc (suc (suc (suc (suc (suc (suc (suc (suc (suc (suc (suc (suc (suc (suc (suc (suc (suc (suc (suc (suc (suc (suc (suc (suc (suc (suc (suc (suc (suc (suc n)))))))))))))))))))))))))))))))) k h = h

pub write_is : (c : Registers) (n v : ℕ) (k : Registers → Type 0) → write_then c n v k → k (with_register c n v)
write_is c zero v k h = h
write_is c (suc zero) v k h = h
write_is c (suc (suc zero)) v k h = h
write_is c (suc (suc (suc zero))) v k h = h
write_is c (suc (suc (suc (suc zero)))) v k h = h
write_is c (suc (suc (suc (suc (suc zero))))) v k h = h
write_is c (suc (suc (suc (suc (suc (suc zero)))))) v k h = h
write_is c (suc (suc (suc (suc (suc (suc (suc zero))))))) v k h = h
write_is c (suc (suc (suc (suc (suc (suc (suc (suc zero)))))))) v k h = h
write_is c (suc (suc (suc (suc (suc (suc (suc (suc (suc zero))))))))) v k h = h
write_is c (suc (suc (suc (suc (suc (suc (suc (suc (suc (suc zero)))))))))) v k h = h
write_is c (suc (suc (suc (suc (suc (suc (suc (suc (suc (suc (suc zero))))))))))) v k h = h
write_is c (suc (suc (suc (suc (suc (suc (suc (suc (suc (suc (suc (suc zero)))))))))))) v k h = h
write_is c (suc (suc (suc (suc (suc (suc (suc (suc (suc (suc (suc (suc (suc zero))))))))))))) v k h = h
write_is c (suc (suc (suc (suc (suc (suc (suc (suc (suc (suc (suc (suc (suc (suc zero)))))))))))))) v k h = h
write_is c (suc (suc (suc (suc (suc (suc (suc (suc (suc (suc (suc (suc (suc (suc (suc zero))))))))))))))) v k h = h
write_is c (suc (suc (suc (suc (suc (suc (suc (suc (suc (suc (suc (suc (suc (suc (suc (suc zero)))))))))))))))) v k h = h
write_is c (suc (suc (suc (suc (suc (suc (suc (suc (suc (suc (suc (suc (suc (suc (suc (suc (suc zero))))))))))))))))) v k h = h
write_is c (suc (suc (suc (suc (suc (suc (suc (suc (suc (suc (suc (suc (suc (suc (suc (suc (suc (suc zero)))))))))))))))))) v k h = h
write_is c (suc (suc (suc (suc (suc (suc (suc (suc (suc (suc (suc (suc (suc (suc (suc (suc (suc (suc (suc zero))))))))))))))))))) v k h = h
write_is c (suc (suc (suc (suc (suc (suc (suc (suc (suc (suc (suc (suc (suc (suc (suc (suc (suc (suc (suc (suc zero)))))))))))))))))))) v k h = h
write_is c (suc (suc (suc (suc (suc (suc (suc (suc (suc (suc (suc (suc (suc (suc (suc (suc (suc (suc (suc (suc (suc zero))))))))))))))))))))) v k h = h
write_is c (suc (suc (suc (suc (suc (suc (suc (suc (suc (suc (suc (suc (suc (suc (suc (suc (suc (suc (suc (suc (suc (suc zero)))))))))))))))))))))) v k h = h
write_is c (suc (suc (suc (suc (suc (suc (suc (suc (suc (suc (suc (suc (suc (suc (suc (suc (suc (suc (suc (suc (suc (suc (suc zero))))))))))))))))))))))) v k h = h
write_is c (suc (suc (suc (suc (suc (suc (suc (suc (suc (suc (suc (suc (suc (suc (suc (suc (suc (suc (suc (suc (suc (suc (suc (suc zero)))))))))))))))))))))))) v k h = h
write_is c (suc (suc (suc (suc (suc (suc (suc (suc (suc (suc (suc (suc (suc (suc (suc (suc (suc (suc (suc (suc (suc (suc (suc (suc (suc zero))))))))))))))))))))))))) v k h = h
write_is c (suc (suc (suc (suc (suc (suc (suc (suc (suc (suc (suc (suc (suc (suc (suc (suc (suc (suc (suc (suc (suc (suc (suc (suc (suc (suc zero)))))))))))))))))))))))))) v k h = h
write_is c (suc (suc (suc (suc (suc (suc (suc (suc (suc (suc (suc (suc (suc (suc (suc (suc (suc (suc (suc (suc (suc (suc (suc (suc (suc (suc (suc zero))))))))))))))))))))))))))) v k h = h
write_is c (suc (suc (suc (suc (suc (suc (suc (suc (suc (suc (suc (suc (suc (suc (suc (suc (suc (suc (suc (suc (suc (suc (suc (suc (suc (suc (suc (suc zero)))))))))))))))))))))))))))) v k h = h
write_is c (suc (suc (suc (suc (suc (suc (suc (suc (suc (suc (suc (suc (suc (suc (suc (suc (suc (suc (suc (suc (suc (suc (suc (suc (suc (suc (suc (suc (suc zero))))))))))))))))))))))))))))) v k h = h
write_is c (suc (suc (suc (suc (suc (suc (suc (suc (suc (suc (suc (suc (suc (suc (suc (suc (suc (suc (suc (suc (suc (suc (suc (suc (suc (suc (suc (suc (suc (suc zero)))))))))))))))))))))))))))))) v k h = h
write_is c (suc (suc (suc (suc (suc (suc (suc (suc (suc (suc (suc (suc (suc (suc (suc (suc (suc (suc (suc (suc (suc (suc (suc (suc (suc (suc (suc (suc (suc (suc (suc zero))))))))))))))))))))))))))))))) v k h = h
write_is c (suc (suc (suc (suc (suc (suc (suc (suc (suc (suc (suc (suc (suc (suc (suc (suc (suc (suc (suc (suc (suc (suc (suc (suc (suc (suc (suc (suc (suc (suc (suc (suc n)))))))))))))))))))))))))))))))) v k h = h
