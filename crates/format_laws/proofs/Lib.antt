mod Beginning
mod Written
