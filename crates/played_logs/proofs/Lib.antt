mod Answering
mod LinesWritten
mod Playing
