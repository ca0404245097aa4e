mod Lines
mod Written
mod ByThousands
pub mod DumpLines
mod AllLines
mod InKeyOrder
