mod WholeInstructions
mod Printable
