mod ToldApart
mod Answering
