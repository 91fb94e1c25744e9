use native.Mathlib.Omega.{arith}
use Rattle.run_end.proofs.error_end.Goals as goal

pub returns-in-InvalidArg : goal.returns-in-InvalidArg
returns-in-InvalidArg c = rw c.in-InvalidArg.is (c.value_end.ensures, omega arith)

pub returns-in-Timeout : goal.returns-in-Timeout
returns-in-Timeout c = rw c.in-Timeout.is (c.value_end-in-Timeout.ensures, omega arith)

pub returns-in-Io : goal.returns-in-Io
returns-in-Io c = rw c.in-Io.is (c.value_end-in-Io.ensures, omega arith)

pub returns-in-Busy : goal.returns-in-Busy
returns-in-Busy c = rw c.in-Busy.is (c.value_end-in-Busy.ensures, omega arith)

pub returns-in-WouldBlock : goal.returns-in-WouldBlock
returns-in-WouldBlock c = rw c.in-WouldBlock.is (c.value_end-in-WouldBlock.ensures, omega arith)

pub returns-in-NoMem : goal.returns-in-NoMem
returns-in-NoMem c = rw c.in-NoMem.is (c.value_end-in-NoMem.ensures, omega arith)

pub returns-in-Fault : goal.returns-in-Fault
returns-in-Fault c = rw c.in-Fault.is (c.value_end-in-Fault.ensures, c.in-Fault.known_told-1-own.given.0.1)

pub returns-in-EventHeader : goal.returns-in-EventHeader
returns-in-EventHeader c = rw c.in-EventHeader.is (c.value_end-in-EventHeader.ensures, omega arith)

pub returns-in-PastBuffer : goal.returns-in-PastBuffer
returns-in-PastBuffer c = rw c.in-PastBuffer.is (c.value_end-in-PastBuffer.ensures, omega arith)
