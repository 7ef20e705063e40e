-- The tables of the code against the rows of the opcode table.
pub mod EntryShapes
pub mod EntryLookup
pub mod EntriesMatchRows
pub mod PermittedIsListed
pub mod RowAndEntry
pub mod OperandTable
pub mod PlainOpcodes
