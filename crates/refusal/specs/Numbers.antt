-- Each refusal's number, and the fault that it carries. Assumes nothing.
use Rattle.std.specs.Prelude.{ℕ, Some, None, Option}
use Rattle.refusal.specs.declared.Fault.{Fault}
use Rattle.refusal.specs.declared.Refusal.{Refusal}
use Rattle.refusal.specs.declared.Refusal.TheVariants.{OutOfRange, UnknownVariable, VariableOutOfRange, WrongSession, RegisterFell, JournalFull, NothingQueued, NotDue, UplinkFull, DownlinkFull, NothingReceived, NoSuchCall, StillWaiting, LedgerFull, KeyConflict, RowsFull, EndConflict, RegisterConflict, TooManyRuns, TextTooLong, TooDeep, NotJson, NotAFrame, BadMembers, BadValue, BufferTooSmall}

-- the number that stands for the refusal in reports and towards C
abbrev pub number_for : Refusal → ℕ
-- a time, event, attempt, Wh or price breaks its rule
number_for OutOfRange = 1
-- set: none of the three names
number_for UnknownVariable = 2
-- set: number outside its range
number_for VariableOutOfRange = 3
-- journal of another station, or a session or pending record that the journal does not have so
number_for WrongSession = 11
-- reading, end: below the session's last register
number_for RegisterFell = 12
-- begin, reading: too few free places for the open sessions
number_for JournalFull = 14
-- transmit: nothing queued
number_for NothingQueued = 20
-- transmit: first queued not due
number_for NotDue = 21
-- transmit: the uplink's free count is 0
number_for (UplinkFull f) = 22
-- collect: the downlink's free count is 0
number_for (DownlinkFull f) = 23
-- hear, collect: receive gave nothing
number_for NothingReceived = 30
-- hear: no such record, or attempt outside 1 to its count
number_for NoSuchCall = 31
-- settle: not answered, no error noted, and time left
number_for StillWaiting = 32
-- take: no free place in the ledger
number_for LedgerFull = 41
-- take: key held with other content
number_for KeyConflict = 42
-- take: new session, no free row
number_for RowsFull = 43
-- take: the held end has a lower number, or this is an Ended below a held number
number_for EndConflict = 44
-- take: a held event with a lower number has a higher register, or the reverse
number_for RegisterConflict = 45
-- take: a 17th run
number_for TooManyRuns = 46
-- text above 1,024 bytes
number_for TextTooLong = 51
-- depth passes 8 before a byte gives 53
number_for TooDeep = 52
-- not JSON
number_for NotJson = 53
-- not the array of four
number_for NotAFrame = 54
-- a read name twice in a read object, or a required one missing
number_for BadMembers = 55
-- message id or read value not of its form, id and payload at odds, or transmission unlawful
number_for BadValue = 56
-- the buffer cannot take the frame or the statement
number_for BufferTooSmall = 60

-- only a full uplink and a full downlink name who refused
abbrev pub fault_in : Refusal → Option Fault
fault_in OutOfRange = None
fault_in UnknownVariable = None
fault_in VariableOutOfRange = None
fault_in WrongSession = None
fault_in RegisterFell = None
fault_in JournalFull = None
fault_in NothingQueued = None
fault_in NotDue = None
fault_in (UplinkFull f) = Some f
fault_in (DownlinkFull f) = Some f
fault_in NothingReceived = None
fault_in NoSuchCall = None
fault_in StillWaiting = None
fault_in LedgerFull = None
fault_in KeyConflict = None
fault_in RowsFull = None
fault_in EndConflict = None
fault_in RegisterConflict = None
fault_in TooManyRuns = None
fault_in TextTooLong = None
fault_in TooDeep = None
fault_in NotJson = None
fault_in NotAFrame = None
fault_in BadMembers = None
fault_in BadValue = None
fault_in BufferTooSmall = None
