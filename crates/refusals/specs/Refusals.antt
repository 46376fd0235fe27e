-- Refusals and their numbers, and what a result says of them. Document 01: "every result is an answer, with its data, or a refusal"; "A refusal
-- carries its number and nothing more".
--
--   number e        the number of the refusal e
--   refused r       the number of the refusal in a result; 0 of an answer
--   replied_by f r  a result as a reply: its answer as f gives it, or its refusal's number
use Rattle.std.specs.Prelude.{ℕ, Result, Ok, Err}
use Rattle.word.specs.Reply.{Reply, answer, refusal}
use Rattle.refusals.specs.declared.Refusal.{Refusal}
use Rattle.refusals.specs.declared.Refusal.TheVariants.{ShortSet, Width, TapWord, ChainCount, SpreadWordsCut, SpreadWord, SliceCount, Length, SpareBit, UnknownValue, SliceNumber, RecordLength, RecordSpareBit, ShortColumnList, Column, NoCombination, ShortWordList, PlanWidth, WordCount, WordList, PlanEnd, Signature, ShortOutput, InversionWord, Share, SliceShare, ShortCutList, TieCell, TieOrder, TieSide}

abbrev pub number : Refusal → ℕ
number ShortSet = 1
number Width = 2
number TapWord = 3
number ChainCount = 4
number SpreadWordsCut = 5
number SpreadWord = 6
number SliceCount = 7
number Length = 8
number SpareBit = 9
number UnknownValue = 10
number SliceNumber = 11
number RecordLength = 12
number RecordSpareBit = 13
number ShortColumnList = 14
number Column = 15
number NoCombination = 17
number ShortWordList = 18
number PlanWidth = 19
number WordCount = 20
number WordList = 21
number PlanEnd = 22
number Signature = 23
number ShortOutput = 24
number InversionWord = 25
number Share = 26
number SliceShare = 27
number ShortCutList = 28
number TieCell = 29
number TieOrder = 30
number TieSide = 31

abbrev pub refused : {A : Type 0} → Result A Refusal → ℕ
refused (Ok a) = 0
refused (Err e) = number e

abbrev pub replied_by : {A : Type 0} {B : Type 0} → (A → B) → Result A Refusal → Reply B
replied_by f (Ok a) = answer (f a)
replied_by f (Err e) = refusal (number e)
